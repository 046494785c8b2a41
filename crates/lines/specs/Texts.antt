-- What is printed of a line: its codes, its preview, and the refusal of it.
use Rattle.std.specs.Prelude.{ℕ, List, ◌++◌, codes, decimal, flat_map}
use Rattle.display.specs.Texts.{colour_text}
use Rattle.lines.specs.Faults.{number_of, layer_of, place_of}
use Rattle.lines.specs.declared.fault.Fault.{Fault}
use Rattle.lines.specs.declared.fault.Layer.{Layer}
use Rattle.lines.specs.declared.fault.Layer.TheVariants.{Trellis, Plate, File}

abbrev pub layer_text : Layer → List ℕ
layer_text Trellis = codes "trellis"
layer_text Plate = codes "plate"
layer_text File = codes "file"

-- number, layer, place
abbrev pub fault_text : Fault → List ℕ
fault_text fault =
    codes "fault "
    ++ (decimal (number_of fault) ++ (codes " " ++ (layer_text (layer_of fault) ++ (codes " pixel " ++ decimal (place_of fault)))))

-- each number after a space
abbrev pub spaced : (ℕ → List ℕ) → List ℕ → List ℕ
spaced text ns = flat_map (λ n. codes " " ++ text n) ns

-- codes in decimal, and colours as their three digits
unfoldable pub codes_text : List ℕ → List ℕ
codes_text line = spaced decimal line

unfoldable pub preview_text : List ℕ → List ℕ
preview_text colours = spaced (λ n. colour_text (record { 0 = n })) colours
