-- How a fault of a plate file is written.
use Rattle.std.specs.Prelude.{ℕ, List, ◌++◌, Some, None, codes, decimal, Option}
use Rattle.lines.specs.Faults.{place_of}
use Rattle.lines.specs.Texts.{layer_text}
use Rattle.records.specs.declared.fault.FileFault.{FileFault}
use Rattle.records.specs.declared.fault.FileFault.TheVariants.{TooLong, NoRecord, UnknownMark, BadLength, PastEnd, Plate}
use Rattle.records.specs.declared.fault.LineFault.{LineFault}
use Rattle.records.specs.declared.fault.PlateFault.{PlateFault}
use Rattle.records.specs.declared.fault.PlateFault.TheVariants.{Misplaced, OutOfRange, Trellis}
use Rattle.records.specs.Faults.{file_number, file_layer, file_place}

-- the line that was refused, if the fault is of the trellis
abbrev pub plate_refused : PlateFault → Option LineFault
plate_refused (Misplaced at) = None
plate_refused (OutOfRange at) = None
plate_refused (Trellis refused) = Some refused

abbrev pub refused_line : FileFault → Option LineFault
refused_line TooLong = None
refused_line (NoRecord at) = None
refused_line (UnknownMark at) = None
refused_line (BadLength at) = None
refused_line (PastEnd at) = None
refused_line (Plate fault) = plate_refused fault

-- where a fault is: in a refused line its line and pixel, and always its record
abbrev pub place_text : Option LineFault → ℕ → List ℕ
place_text None at = codes " record " ++ decimal at
place_text (Some refused) at =
    codes " line "
    ++ (decimal refused.line ++ (codes " pixel " ++ (decimal (place_of refused.fault) ++ (codes " record " ++ decimal at))))

-- number, layer, place
unfoldable pub fault_text : FileFault → List ℕ
fault_text fault =
    codes "fault "
    ++ (decimal (file_number fault)
    ++ (codes " " ++ (layer_text (file_layer fault) ++ place_text (refused_line fault) (file_place fault))))
