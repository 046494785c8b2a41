-- Levels, colours, targets, and the error of a pixel.
use Rattle.std.specs.Prelude.{ℕ, ◌+◌, ◌-◌, ◌*◌, ◌/◌, ◌%◌, List, slice_index, min, max}
use Rattle.display.specs.declared.colour.Levels.{Levels}
use Rattle.display.specs.declared.colour.Target.{Target}

-- a colour by its three levels, and its levels again
abbrev pub colour_of : ℕ → ℕ → ℕ → ℕ
colour_of red green blue = 256 * red + 16 * green + blue

abbrev pub red_of : ℕ → ℕ
red_of colour = colour / 256

abbrev pub green_of : ℕ → ℕ
green_of colour = colour / 16 % 16

abbrev pub blue_of : ℕ → ℕ
blue_of colour = colour % 16

abbrev pub shown_levels : ℕ → Levels
shown_levels colour = record { red = red_of colour; green = green_of colour; blue = blue_of colour }

-- a target by its three bytes
abbrev pub target_by : List ℕ → Target
target_by bytes =
    record { red = slice_index bytes 0; green = slice_index bytes 1; blue = slice_index bytes 2 }

-- the level of a target's byte
abbrev pub level_of : ℕ → ℕ
level_of byte = byte / 16

abbrev pub levels_of : Target → Levels
levels_of target =
    record { red = level_of target.red; green = level_of target.green; blue = level_of target.blue }

-- the difference of two levels, squared
abbrev pub squared : ℕ → ℕ → ℕ
squared a b = (max a b - min a b) * (max a b - min a b)

-- how far a shown colour is from the levels wanted
abbrev pub error_of : Levels → ℕ → ℕ
error_of wanted colour =
    squared wanted.red (red_of colour) + squared wanted.green (green_of colour) + squared wanted.blue (blue_of colour)
