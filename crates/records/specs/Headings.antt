-- What stands before the lines of a plate file: HD and PL.
use Rattle.std.specs.Prelude.{ℕ, ◌+◌, cond, List, length, drop, Some, None, Ok, Err, Option, Result, nat_lt, slice_index}
use Rattle.std.specs.Option.{unwrap_or}
use Rattle.records.specs.declared.display_kind.CostKind.TheVariants.{Summed}
use Rattle.records.specs.declared.display_kind.MachineKind.{MachineKind}
use Rattle.records.specs.declared.display_kind.MachineKind.TheVariants.{Fill}
use Rattle.records.specs.declared.fault.FileFault.{FileFault}
use Rattle.records.specs.declared.fault.FileFault.TheVariants.{TooLong, Plate}
use Rattle.records.specs.declared.fault.PlateFault.TheVariants.{OutOfRange}
use Rattle.records.specs.declared.heading.Heading.{Heading}
use Rattle.records.specs.declared.record.Stage.TheVariants.{Header as at_header, Palette as at_palette}
use Rattle.records.specs.Letters.{machine_of, cost_of_letter, colours_of, number_of_bytes, words, display_of}
use Rattle.records.specs.Records.{body_at, length_at, record_check, header_right, palette_right}

-- one check, and then another
abbrev pub then_check : Option FileFault → Option FileFault → Option FileFault
then_check None later = later
then_check (Some fault) later = Some fault

abbrev pub by_check : {A : Type 0} → Option FileFault → A → Result A FileFault
by_check None result = Ok result
by_check (Some fault) result = Err fault

-- what the header says: the letters and the width of its body
abbrev pub header_machine : List ℕ → MachineKind
header_machine input = unwrap_or (machine_of (slice_index (body_at input) 0)) Fill

abbrev pub header_width : List ℕ → ℕ
header_width input = number_of_bytes (slice_index (body_at input) 2) (slice_index (body_at input) 3)

-- 13 to 18 of the header, at byte 0
abbrev pub header_check : List ℕ → Option FileFault
header_check input =
    then_check (record_check 0 0 at_header 0 input)
    (cond (header_right (slice_index (body_at input) 0) (slice_index (body_at input) 1) (header_width input)) None (Some (Plate (OutOfRange 0))))

-- 13 to 18 of the palette, at byte 8
abbrev pub palette_check : List ℕ → Option FileFault
palette_check input =
    then_check (record_check (colours_of (header_machine input)) (header_width input) at_palette 8 (drop 8 input))
    (cond (palette_right (body_at (drop 8 input))) None (Some (Plate (OutOfRange 8))))

-- 12: the input passes the limit
abbrev pub size_check : ℕ → List ℕ → Option FileFault
size_check limit input = cond (nat_lt limit (length input)) (Some TooLong) None

-- what a header and a palette that pass their checks say
abbrev pub heading_of : List ℕ → Heading
heading_of input = record {
  display = display_of (header_machine input) (words (body_at (drop 8 input)));
  cost = unwrap_or (cost_of_letter (slice_index (body_at input) 1)) Summed;
  colours = colours_of (header_machine input);
  width = header_width input;
  at = 12 + length_at (drop 8 input);
}

-- what stands before the lines, or the first fault of 12 to 18
abbrev pub heading : ℕ → List ℕ → Result Heading FileFault
heading limit input = by_check (then_check (size_check limit input) (then_check (header_check input) (palette_check input))) (heading_of input)
