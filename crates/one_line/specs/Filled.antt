-- A line that has all its pixels.
use Rattle.std.specs.Prelude.{◌≡◌, ℕ, ◌/◌, List, [], reverse, length, Some, None, Ok, Err, Result}
use Rattle.cost.specs.Kind.{Kind}
use Rattle.display.specs.Machine.{Meaning}
use Rattle.lines.specs.Checks.{and_then}
use Rattle.lines.specs.declared.fault.Fault.{Fault}
use Rattle.run.specs.Account.{Wanted}
use Rattle.run.specs.Agreement.{OpenRight}
use Rattle.trellis.specs.Calls.{start_check}
use Rattle.trellis.specs.declared.plate.OpenLine.{OpenLine}
use Rattle.trellis.specs.declared.plate.Plate.{Plate}
use Rattle.viterbi.specs.declared.Cell.{Cell}
use Rattle.one_line.specs.Drawing.{blocked}
use Rattle.one_line.specs.Pixels.{pixels_of_line}

module _ {C : Type 0} (m : Meaning) (k : Kind C) where
  -- an open line that has all its pixels
  pub record Full (width : ℕ) (pixels : List Wanted) (line : OpenLine C) (cells : List (Cell C)) : Type 0 where
    pub starts : start_check m (length cells) line.plate.lines width ≡ None
    pub passes : blocked m k [] pixels ≡ None
    pub long : length pixels ≡ width
    pub drawn : OpenRight m k width (reverse pixels) line cells

  -- the line on the plate that has a pixel for each target, three bytes each; or the first refusal, and the plate as it was
  abbrev pub FilledRight : ℕ → Plate C → List ℕ → List ℕ → Result (OpenLine C) (Plate C × Fault) → List (Cell C) → Type 0
  FilledRight cells plate pins targets (Ok line) after =
      (line.plate ≡ plate) × Full (length targets / 3) (pixels_of_line pins targets) line after
  FilledRight cells plate pins targets (Err (back, fault)) after =
      (back ≡ plate) × (and_then (start_check m cells plate.lines (length targets / 3)) (blocked m k [] (pixels_of_line pins targets)) ≡ Some fault)
