-- What a plate file comes to.
use Rattle.std.specs.Prelude.{◌≡◌, ℕ, zero, suc, ◌+◌, cond, List, [], ◌∷◌, length, Some, None, Ok, Err, Option, Result, ◌==◌}
use Rattle.std.specs.Option.{unwrap_or}
use Rattle.cost.specs.Kind.{Kind}
use Rattle.display.specs.Machine.{Meaning}
use Rattle.lines.specs.declared.fault.Fault.{Fault}
use Rattle.run.specs.Account.{ClosedLine}
use Rattle.run.specs.Promise.{Reports}
use Rattle.run.specs.Rivals.{Best}
use Rattle.records.specs.declared.fault.FileFault.{FileFault}
use Rattle.records.specs.declared.fault.FileFault.TheVariants.{Plate}
use Rattle.records.specs.declared.fault.PlateFault.TheVariants.{Misplaced, OutOfRange, Trellis}
use Rattle.records.specs.declared.record.Mark.{Mark}
use Rattle.records.specs.declared.record.Mark.TheVariants.{Header, Palette, Pins, Line, End}
use Rattle.records.specs.declared.record.Stage.{Stage}
use Rattle.records.specs.declared.record.Stage.TheVariants.{Lines as at_lines, Pinned as at_pinned}
use Rattle.records.specs.Records.{mark_at, body_at, length_at, after_record, record_check, pins_right}
use Rattle.one_line.specs.Pixels.{pixels_of_line}
use Rattle.one_line.specs.Drawing.{drawn_line}

-- what comes out of a file: lines, and then how many there are and their total, or the fault that ends it
pub data Output (C : Type 0) : Type 0 where
  line_out : (number : ℕ) (line : ClosedLine C) → Output C
  total_out : (lines : ℕ) (total : C) → Output C
  fault_out : FileFault → Output C

-- the stage of a reader that has this PN body, or none, before it
abbrev pub stage_after : Option (List ℕ) → Stage
stage_after None = at_lines
stage_after (Some pins) = at_pinned

module _ {C : Type 0} (m : Meaning) (k : Kind C) (cells colours width : ℕ) where
  -- what follows once a place, the input from there, a PN body, the lines so far and their total are given
  abbrev pub Going : Type 0
  Going = ℕ → List ℕ → Option (List ℕ) → ℕ → C → List (Output C)

  -- a line that was drawn, or whose call was refused
  abbrev pub on_drawn : Going → ℕ → List ℕ → ℕ → C → Result (ClosedLine C) Fault → List (Output C)
  on_drawn go at rest lines total (Ok line) = line_out lines line ∷ go (at + (4 + length_at rest)) (after_record rest) None (lines + 1) (k.join total line.cost)
  on_drawn go at rest lines total (Err fault) = fault_out (Plate (Trellis (record { fault = fault; line = lines; at = at }))) ∷ []

  -- a record that passed 13 to 17
  abbrev pub on_mark : Going → ℕ → List ℕ → Option (List ℕ) → ℕ → C → Option Mark → List (Output C)
  on_mark go at rest pins lines total None = []
  on_mark go at rest pins lines total (Some Header) = []
  on_mark go at rest pins lines total (Some Palette) = []
  on_mark go at rest pins lines total (Some Pins) =
      cond (pins_right width (body_at rest)) (go (at + (4 + length_at rest)) (after_record rest) (Some (body_at rest)) lines total) (fault_out (Plate (OutOfRange at)) ∷ [])
  on_mark go at rest pins lines total (Some Line) =
      on_drawn go at rest lines total (drawn_line m k cells lines width (pixels_of_line (unwrap_or pins []) (body_at rest)))
  on_mark go at rest pins lines total (Some End) =
      cond (length (after_record rest) == 0) (total_out lines total ∷ []) (fault_out (Plate (Misplaced (at + 4))) ∷ [])

  abbrev pub on_record : Going → ℕ → List ℕ → Option (List ℕ) → ℕ → C → Option FileFault → List (Output C)
  on_record go at rest pins lines total (Some fault) = fault_out fault ∷ []
  on_record go at rest pins lines total None = on_mark go at rest pins lines total (mark_at rest)

  -- from the record at byte `at` on; `steps` only counts, and is more than the bytes that are left
  abbrev pub outputs_from : ℕ → Going
  outputs_from zero at rest pins lines total = []
  outputs_from (suc steps) at rest pins lines total =
      on_record (outputs_from steps) at rest pins lines total (record_check colours width (stage_after pins) at rest)

  -- what comes out of the lines of a file on a plate that has so many lines and this total
  abbrev pub outputs : ℕ → List ℕ → ℕ → C → List (Output C)
  outputs at rest lines total = outputs_from (suc (length rest)) at rest None lines total

  -- The promise in the file's terms: lines are numbered in order, each is the best of its rivals; the total is that of the lines before it, and no choice of rivals totals less; nothing follows a total or a fault.
  abbrev pub Kept : List (ClosedLine C) → List (Output C) → Type 0
  Kept closed [] = ⊥
  Kept closed (line_out number line ∷ more) = (number ≡ length closed) × Best m k line × Kept (line ∷ closed) more
  Kept closed (total_out lines total ∷ more) = Reports m k closed lines total × (more ≡ [])
  Kept closed (fault_out fault ∷ more) = more ≡ []
