-- The faults of a plate file: the number, the layer and the place of each.
use Rattle.std.specs.Prelude.{ℕ}
use Rattle.lines.specs.Faults.{number_of, layer_of}
use Rattle.lines.specs.declared.fault.Layer.{Layer}
use Rattle.lines.specs.declared.fault.Layer.TheVariants.{Plate as in_plate, File as in_file}
use Rattle.records.specs.declared.fault.FileFault.{FileFault}
use Rattle.records.specs.declared.fault.FileFault.TheVariants.{TooLong, NoRecord, UnknownMark, BadLength, PastEnd, Plate}
use Rattle.records.specs.declared.fault.PlateFault.{PlateFault}
use Rattle.records.specs.declared.fault.PlateFault.TheVariants.{Misplaced, OutOfRange, Trellis}

abbrev pub plate_number : PlateFault → ℕ
plate_number (Misplaced at) = 15
plate_number (OutOfRange at) = 18
plate_number (Trellis refused) = number_of refused.fault

abbrev pub file_number : FileFault → ℕ
file_number TooLong = 12
file_number (NoRecord at) = 13
file_number (UnknownMark at) = 14
file_number (BadLength at) = 16
file_number (PastEnd at) = 17
file_number (Plate fault) = plate_number fault

abbrev pub plate_layer : PlateFault → Layer
plate_layer (Misplaced at) = in_plate
plate_layer (OutOfRange at) = in_plate
plate_layer (Trellis refused) = layer_of refused.fault

abbrev pub file_layer : FileFault → Layer
file_layer TooLong = in_file
file_layer (NoRecord at) = in_file
file_layer (UnknownMark at) = in_file
file_layer (BadLength at) = in_file
file_layer (PastEnd at) = in_file
file_layer (Plate fault) = plate_layer fault

-- the byte at which the record begins
abbrev pub plate_place : PlateFault → ℕ
plate_place (Misplaced at) = at
plate_place (OutOfRange at) = at
plate_place (Trellis refused) = refused.at

abbrev pub file_place : FileFault → ℕ
file_place TooLong = 0
file_place (NoRecord at) = at
file_place (UnknownMark at) = at
file_place (BadLength at) = at
file_place (PastEnd at) = at
file_place (Plate fault) = plate_place fault
