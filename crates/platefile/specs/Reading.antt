-- What is left of a file, and what comes out of it next.
use Rattle.std.specs.Prelude.{◌≡◌, ℕ, suc, ◌-◌, ◌<◌, ◌≤◌, List, [], ◌∷◌, length, drop, Some, None, Ok, Err, vec_items, Option, Result}
use Rattle.std.specs.Option.{unwrap_or}
use Rattle.cost.specs.Kind.{Kind}
use Rattle.run.specs.Account.{ClosedLine}
use Rattle.run.specs.Rivals.{Best}
use Rattle.records.specs.declared.display_kind.AnyDisplay.{AnyDisplay}
use Rattle.records.specs.declared.fault.FileFault.{FileFault}
use Rattle.records.specs.declared.record.Mark.TheVariants.{Line as MarkLine}
use Rattle.records.specs.declared.record.Stage.TheVariants.{Pinned as at_pinned}
use Rattle.platefile.specs.declared.drawing.LineRecord.{LineRecord}
use Rattle.platefile.specs.declared.error.FileError.{FileError}
use Rattle.platefile.specs.declared.error.FileError.TheVariants.{Fault, NoMemory}
use Rattle.platefile.specs.declared.drawing.DrawnLine.{DrawnLine}
use Rattle.platefile.specs.declared.reader.Lines.{Lines}
use Rattle.platefile.specs.declared.reader.Next.{Next}
use Rattle.platefile.specs.declared.reader.Next.TheVariants.{Line, Total}
use Rattle.records.specs.Letters.{meaning_of}
use Rattle.records.specs.Records.{mark_at, body_at, record_check}
use Rattle.platefile.specs.Files.{Output, line_out, total_out, fault_out, stage_after, outputs_from, outputs}

-- how many bytes are still to be read
abbrev pub bytes_left : {C : Type 0} → Lines C → ℕ
bytes_left lines = length lines.input.now - lines.at

-- a line that comes out leaves fewer of them, so that a file ends
abbrev pub Shortens : {C : Type 0} → Lines C → Result (Next C) FileError → Type 0
Shortens before (Ok (Line line after)) = bytes_left after < bytes_left before
Shortens before (Ok (Total report)) = Unit {0}
Shortens before (Err error) = Unit {0}

module _ {C : Type 0} (k : Kind C) where
  -- all that is still to come out
  abbrev pub left_outputs : Lines C → List (Output C)
  left_outputs lines =
      outputs (meaning_of lines.heading.display) k (length (vec_items lines.cells)) lines.heading.colours lines.heading.width
      lines.at (drop lines.at lines.input.now) lines.plate.lines lines.plate.total

  -- of these outputs a line comes out, and the rest is still to come
  pub record LineNext (outs : List (Output C)) (display : AnyDisplay) (drawn : DrawnLine C) (after : Lines C) : Type 0 where
    pub line : ClosedLine C
    pub out : outs ≡ line_out drawn.number line ∷ left_outputs after
    pub cost_is : line.cost ≡ drawn.cost
    pub codes_are : line.codes ≡ vec_items drawn.codes
    pub preview_is : line.preview ≡ vec_items drawn.preview
    -- no rival of the line costs less
    pub best : Best (meaning_of display) k line

  -- what comes out first of these outputs
  abbrev pub OutRight : List (Output C) → AnyDisplay → Result (Next C) FileError → Type 0
  OutRight outs display (Ok (Line line after)) = LineNext outs display line after
  OutRight outs display (Ok (Total report)) = outs ≡ total_out report.lines report.total ∷ []
  OutRight outs display (Err (Fault fault)) = outs ≡ fault_out fault ∷ []
  OutRight outs display (Err (NoMemory lack)) = Unit {0}

  abbrev pub NextRight : Lines C → Result (Next C) FileError → Type 0
  NextRight before next = OutRight (left_outputs before) before.heading.display next

  -- where an LN stands, with these pins before it or none, and these targets
  pub record LineHere (before : Lines C) (at : ℕ) (pinned : Option (List ℕ)) (targets : List ℕ) : Type 0 where
    pub good : record_check before.heading.colours before.heading.width (stage_after pinned) at (drop at before.input.now) ≡ None
    pub marked : mark_at (drop at before.input.now) ≡ Some MarkLine
    pub body : body_at (drop at before.input.now) ≡ targets

  -- what comes out from byte `at` on
  abbrev pub outputs_at : Lines C → ℕ → Option (List ℕ) → List (Output C)
  outputs_at before at pinned =
      outputs_from (meaning_of before.heading.display) k (length (vec_items before.cells)) before.heading.colours before.heading.width
      (suc (length (drop at before.input.now))) at (drop at before.input.now) pinned before.plate.lines before.plate.total

  -- the LN after these pins, or its first fault of 13 to 17
  abbrev pub PinnedRight : Lines C → ℕ → List ℕ → Result LineRecord FileFault → Type 0
  PinnedRight before at pins (Ok line) = (line.at ≡ at) × (line.pins.now ≡ pins) × LineHere before at (Some pins) line.targets.now
  PinnedRight before at pins (Err fault) = record_check before.heading.colours before.heading.width at_pinned at (drop at before.input.now) ≡ Some fault

  -- a line that stands next: all that is still to come out comes out from its LN on
  pub record LineFound (before : Lines C) (line : LineRecord) : Type 0 where
    pub pinned : Option (List ℕ)
    pub pins_are : unwrap_or pinned [] ≡ line.pins.now
    pub here : LineHere before line.at pinned line.targets.now
    pub outs : left_outputs before ≡ outputs_at before line.at pinned
    pub beyond : before.at ≤ line.at

  -- the line that stands next, the total where there is none, or the fault that ends the file
  abbrev pub FoundRight : Lines C → Result (Option LineRecord) FileFault → Type 0
  FoundRight before (Ok (Some line)) = LineFound before line
  FoundRight before (Ok None) = left_outputs before ≡ total_out before.plate.lines before.plate.total ∷ []
  FoundRight before (Err fault) = left_outputs before ≡ fault_out fault ∷ []
