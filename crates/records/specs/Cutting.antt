-- What cut answers, and the stage that it leaves; what the check of a header answers.
use Rattle.std.specs.Prelude.{◌≡◌, ℕ, cond, List, length, Some, None, Ok, Err, Result}
use Rattle.std.specs.Option.{unwrap_or}
use Rattle.records.specs.declared.display_kind.CostKind.{CostKind}
use Rattle.records.specs.declared.display_kind.CostKind.TheVariants.{Summed}
use Rattle.records.specs.declared.display_kind.MachineKind.{MachineKind}
use Rattle.records.specs.declared.display_kind.MachineKind.TheVariants.{Fill}
use Rattle.records.specs.declared.fault.FileFault.{FileFault}
use Rattle.records.specs.declared.fault.PlateFault.{PlateFault}
use Rattle.records.specs.declared.fault.PlateFault.TheVariants.{OutOfRange}
use Rattle.records.specs.declared.record.Mark.{Mark}
use Rattle.records.specs.declared.record.Mark.TheVariants.{Header, Palette, Pins, Line, End}
use Rattle.records.specs.declared.record.Record.{Record}
use Rattle.records.specs.declared.record.Stage.{Stage}
use Rattle.records.specs.Letters.{machine_of, cost_of_letter}
use Rattle.records.specs.Records.{mark_at, body_at, next_stage, record_check, RecordIs, header_right}

-- a body that a record of this mark can be made of
abbrev pub Whole : Mark → List ℕ → Type 0
Whole Header body = length body ≡ 4
Whole Palette body = Unit {0}
Whole Pins body = Unit {0}
Whole Line body = Unit {0}
Whole End body = Unit {0}

-- the record at the front of the input passes 13 to 17, and is the one of its mark and body; the stage goes on
pub record Taken (colours width : ℕ) (before : Stage) (at : ℕ) (input : List ℕ) (piece : Record) (after : Stage) : Type 0 where
  pub passed : record_check colours width before at input ≡ None
  pub mark : Mark
  pub marked : mark_at input ≡ Some mark
  pub is : RecordIs mark (body_at input) piece
  pub next : next_stage before mark ≡ Some after

-- the record, or the first fault of 13 to 17, which leaves the stage as it was
abbrev pub Cuts : ℕ → ℕ → Stage → ℕ → List ℕ → Result Record FileFault → Stage → Type 0
Cuts colours width before at input (Ok piece) after = Taken colours width before at input piece after
Cuts colours width before at input (Err fault) after = (record_check colours width before at input ≡ Some fault) × (after ≡ before)

-- 18 of a header, whose record begins at byte 0: the display and the cost kind, or the fault
abbrev pub checked_header : ℕ → ℕ → ℕ → Result (MachineKind × CostKind) PlateFault
checked_header machine cost width =
    cond (header_right machine cost width) (Ok (unwrap_or (machine_of machine) Fill, unwrap_or (cost_of_letter cost) Summed)) (Err (OutOfRange 0))
