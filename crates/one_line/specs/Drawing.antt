-- A line, started, filled and closed.
use Rattle.std.specs.Prelude.{ℕ, cond, List, [], ◌∷◌, ◌++◌, reverse, length, Some, None, Option, Result}
use Rattle.std.specs.Option.{unwrap_or}
use Rattle.cost.specs.Kind.{Kind}
use Rattle.display.specs.Colours.{levels_of}
use Rattle.display.specs.Machine.{Meaning}
use Rattle.lines.specs.Checks.{and_then, answer}
use Rattle.lines.specs.Lines.{preview_of}
use Rattle.lines.specs.declared.fault.Fault.{Fault}
use Rattle.lines.specs.declared.fault.Fault.TheVariants.{NoWay}
use Rattle.run.specs.Account.{Wanted, ClosedLine}
use Rattle.run.specs.Rivals.{stages}
use Rattle.trellis.specs.Calls.{start_check, unknown_pin}
use Rattle.trellis.specs.Stages.{stage}
use Rattle.viterbi.specs.Columns.{at, last_column, passable, pick, traced_codes}

module _ {C : Type 0} (m : Meaning) (k : Kind C) where
  -- the first of the pixels that is refused, by 7 or 8; `before` are the pixels on its left, from left to right
  abbrev pub blocked : List Wanted → List Wanted → Option Fault
  blocked before [] = None
  blocked before (p ∷ pixels) =
      and_then (unknown_pin m.codes p.pin (length before))
      (and_then (cond (passable k m.states m.codes (last_column k m.states m.codes m.start (stages m k before)) (stage m k (levels_of p.target) p.pin)) None (Some (NoWay (length before))))
      (blocked (before ++ p ∷ []) pixels))

  -- the state that close picks
  abbrev pub picked_end : List Wanted → ℕ
  picked_end pixels = unwrap_or (pick k (last_column k m.states m.codes m.start (stages m k pixels)) m.states) 0

  -- the line that columns and close pick
  abbrev pub picked_line : List Wanted → ClosedLine C
  picked_line pixels =
      let codes = reverse (traced_codes k m.states m.codes m.start (stages m k pixels) (picked_end pixels)) in
      record {
        pixels = pixels;
        codes = codes;
        preview = preview_of m codes;
        cost = (at k (last_column k m.states m.codes m.start (stages m k pixels)) (picked_end pixels)).cost;
      }

  -- the line drawn on a plate that has so many lines, with so many cells: the picked line, or the first refusal
  abbrev pub drawn_line : ℕ → ℕ → ℕ → List Wanted → Result (ClosedLine C) Fault
  drawn_line cells lines width pixels = answer (and_then (start_check m cells lines width) (blocked [] pixels)) (picked_line pixels)
