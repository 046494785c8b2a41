-- What the checks of pixel and pin tell: what the columns need, and that the line has room.
use Rattle.std.proofs.Common.{◌≡◌, ℕ, ◌+◌, ◌*◌, ◌<◌, ◌≤◌, List, length, None, Option, arith}
use Rattle.cost.specs.Kind.{Kind}
use Rattle.display.specs.Machine.{Meaning}
use Rattle.display.specs.declared.colour.Target.{Target}
use Rattle.lines.specs.declared.fault.Fault.{Fault}
use Rattle.viterbi.specs.declared.Cell.{Cell}
use Rattle.trellis.specs.declared.plate.OpenLine.{OpenLine}
use Rattle.trellis.specs.Calls.{pixels_of, early_check, add_check, no_way}
use Rattle.trellis.proofs.Reading.{column_before}
use Rattle.trellis.proofs.Checking.{Told, told, passed_both, early_passed, next_fits}

module _ {C : Type 0} (m : Meaning) (line : OpenLine C) (cells : List (Cell C)) (pin : Option ℕ) where
  abbrev early : Option Fault
  early = early_check m (length cells) line.width pin (pixels_of line)

  -- the last column is whole
  pub last_whole : (pixels : ℕ) → pixels ≡ pixels_of line → Told None early → pixels * m.states + m.states ≤ length cells
  last_whole pixels is e =
      let p = early_passed m (length cells) line.width pin (pixels_of line) (told None early tt tt e) in
      column_before m.states line.width (length cells) pixels p.0 (omega arith)

  module _ (k : Kind C) (target : Target) (e : Told None (add_check m k line cells target pin)) where
    passed : (line.width * m.states + m.states ≤ length cells) × (pixels_of line < line.width)
    passed =
        let none = told None (add_check m k line cells target pin) tt tt e in
        early_passed m (length cells) line.width pin (pixels_of line) (passed_both early (no_way m k target pin (pixels_of line) cells) none).0

    -- and there is a next one
    pub next_whole : (pixels : ℕ) → pixels ≡ pixels_of line → pixels * m.states + 2 * m.states ≤ length cells
    next_whole pixels is = next_fits m.states (length cells) line.width pixels passed.0 (omega (arith, passed.1))

    pub lacks_one : 1 ≤ line.left
    lacks_one = omega (arith, passed.1)
