-- A line of targets without pins, on a plate of its own.
use Rattle.std.specs.Prelude.{◌≡◌, ℕ, ◌/◌, List, [], ◌∷◌, map, length, take, IfOk, None, Option, Result}
use Rattle.cost.specs.Kind.{Kind}
use Rattle.display.specs.Machine.{Meaning}
use Rattle.lines.specs.Checks.{and_then, answer, left, with_front}
use Rattle.lines.specs.Lines.{targets_of}
use Rattle.lines.specs.declared.fault.Fault.{Fault}
use Rattle.run.specs.Account.{Wanted, ClosedLine}
use Rattle.run.specs.Promise.{Reports}
use Rattle.run.specs.Rivals.{Best}
use Rattle.trellis.specs.Calls.{start_check, short_buffers}
use Rattle.one_line.specs.Drawing.{blocked, picked_line}
use Rattle.one_line.specs.declared.Figures.{Figures}

-- the pixels of targets, none of them pinned
abbrev pub wanted_of : List ℕ → List Wanted
wanted_of bytes = map (λ target. record { target = target; pin = None }) (targets_of bytes)

module _ {C : Type 0} (m : Meaning) (k : Kind C) where
  -- a line's cost, and what a plate with this line alone reports
  abbrev pub figures_of : ClosedLine C → Figures C
  figures_of line = record { cost = line.cost; report = record { lines = 1; total = k.join k.zero line.cost } }

  module _ (cells : ℕ) (bytes codes preview : List ℕ) where
    -- the checks in order: those of start, those of the pixels, and of close the one on the buffers
    abbrev pub line_check : Option Fault
    line_check =
        and_then (start_check m cells 0 (length bytes / 3))
        (and_then (blocked m k [] (wanted_of bytes)) (short_buffers (length codes) (length preview) (length bytes / 3)))

    -- the figures of the line that columns and close pick, or the first refusal
    abbrev pub line_answer : Result (Figures C) Fault
    line_answer = answer line_check (figures_of (picked_line m k (wanted_of bytes)))

    -- what the buffers hold then: the line's codes and colours at their fronts, or what they held
    abbrev pub line_codes : List ℕ
    line_codes = left line_check (with_front (picked_line m k (wanted_of bytes)).codes codes) codes

    abbrev pub line_preview : List ℕ
    line_preview = left line_check (with_front (picked_line m k (wanted_of bytes)).preview preview) preview

  -- the line at the fronts of two buffers, with this cost
  abbrev pub front_line : List ℕ → List ℕ → List ℕ → C → ClosedLine C
  front_line bytes codes preview cost =
      let n = length bytes / 3 in
      record { pixels = wanted_of bytes; codes = take n codes; preview = take n preview; cost = cost }

  -- that line is the best of its rivals, and the report is that of a plate with this line alone
  pub record BestFront (bytes codes preview : List ℕ) (figures : Figures C) : Type 0 where
    pub best : Best m k (front_line bytes codes preview figures.cost)
    pub reports : Reports m k (front_line bytes codes preview figures.cost ∷ []) figures.report.lines figures.report.total

  -- what drawing a line answers, and what it leaves in the buffers
  pub record Draws (cells : ℕ) (bytes codes preview : List ℕ) (result : Result (Figures C) Fault) (codes' preview' : List ℕ) : Type 0 where
    pub value : result ≡ line_answer cells bytes codes preview
    pub coded : codes' ≡ line_codes cells bytes codes preview
    pub previewed : preview' ≡ line_preview cells bytes codes preview
    -- so a line that is answered is the best
    pub best : IfOk result (BestFront bytes codes' preview')
