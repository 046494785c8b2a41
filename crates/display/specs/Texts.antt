-- The text of a colour.
use Rattle.std.specs.Prelude.{ℕ, ◌+◌, ◌%◌, cond, List, [], ◌∷◌, nat_lt}
use Rattle.display.specs.Colours.{red_of, green_of, blue_of}
use Rattle.display.specs.declared.colour.Colour.{Colour}

-- a level as a hexadecimal digit: 0 to 9, then a to f
abbrev pub digit_of : ℕ → ℕ
digit_of level = cond (nat_lt level 10) (48 + level) (87 + level)

-- the digits of red, green and blue; only the low twelve bits count
abbrev pub colour_text : Colour → List ℕ
colour_text c =
    let n = c.0 % 4096 in
    digit_of (red_of n) ∷ digit_of (green_of n) ∷ digit_of (blue_of n) ∷ []
