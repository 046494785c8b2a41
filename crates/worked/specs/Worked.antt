-- Values worked out by hand. Colours stand as numbers: 3840 is f00, 240 is 0f0, 15 is 00f. In lines a colour stands by its levels: colour_of 15 0 0 is f00.
use Rattle.std.specs.Prelude.{◌≡◌, ℕ, ◌-◌, ◌≤◌, List, [], ◌∷◌, map, replicate, None, slice_set}
use Rattle.cost.specs.Kind.{Kind, AtMost}
use Rattle.cost.specs.Kinds.{top, summed, summed_of, worst, worst_of, pair, pair_of}
use Rattle.display.specs.Colours.{colour_of, level_of, levels_of, error_of}
use Rattle.display.specs.Displays.{ham_meaning, half_brite_meaning, fill_meaning}
use Rattle.display.specs.Machine.{Meaning, Steps}
use Rattle.display.specs.declared.colour.Target.{Target}
use Rattle.display.specs.declared.ham.Ham.{Ham}
use Rattle.display.specs.declared.half_brite.HalfBrite.{HalfBrite}
use Rattle.display.specs.declared.fill.Fill.{Fill}
use Rattle.lines.specs.Lines.{Legal, preview_of, cost_of}
use Rattle.run.specs.Account.{Wanted}
use Rattle.run.specs.Rivals.{Best}

-- code c leads from state s to a state that shows the colour
abbrev pub Shows : Meaning → ℕ → ℕ → ℕ → Type 0
Shows m s c colour = (t : ℕ) × Steps m s c t × (m.shown t ≡ colour)

-- HAM, all registers 000
abbrev pub black : Ham
black = record { registers = replicate 16 0 }

abbrev pub ham : Meaning
ham = ham_meaning black

-- HAM, register 1 fff and the rest 000
abbrev pub white : Ham
white = record { registers = slice_set (replicate 16 0) 1 (colour_of 15 15 15) }

abbrev pub white_ham : Meaning
white_ham = ham_meaning white

-- Extra-Half-Brite, register 5 fa3 and the rest 000
abbrev pub bright : HalfBrite
bright = record { registers = slice_set (replicate 32 0) 5 4003 }

abbrev pub half_brite : Meaning
half_brite = half_brite_meaning bright

-- fill mode, entry 1 f00, entry 2 0f0 and the rest 000
abbrev pub red_green : Fill
red_green = record { entries = slice_set (slice_set (replicate 16 0) 1 (colour_of 15 0 0)) 2 (colour_of 0 15 0) }

abbrev pub fill : Meaning
fill = fill_meaning red_green

-- the two wanted colours of an editor's line
abbrev pub first : Target
first = record { red = 136; green = 119; blue = 0 }

abbrev pub second : Target
second = record { red = 0; green = 119; blue = 119 }

abbrev pub wanted : List Target
wanted = first ∷ second ∷ []

-- red, green and their mixture, as full as they can be drawn
abbrev pub full_red : Target
full_red = record { red = 255; green = 0; blue = 0 }

abbrev pub full_green : Target
full_green = record { red = 0; green = 255; blue = 0 }

abbrev pub yellow : Target
yellow = record { red = 255; green = 255; blue = 0 }

-- green and then blue, and the nearest colour pixel by pixel
abbrev pub green_blue : List ℕ
green_blue = 55 ∷ 23 ∷ []

abbrev pub nearest : List ℕ
nearest = 40 ∷ 0 ∷ []

-- a pixel with no pin
abbrev pub free : Target → Wanted
free target = record { target = target; pin = None }

-- a line with these targets and no pins closes with these codes, this preview and this cost, and is all that is promised of a closed line
abbrev pub Closes : {C : Type 0} → Meaning → Kind C → List Target → List ℕ → List ℕ → C → Type 0
Closes m k targets codes preview cost = Best m k (record { pixels = map free targets; codes = codes; preview = preview; cost = cost })

pub record WorkedValues : Type 0 where
  pub level_15 : level_of 15 ≡ 0
  pub level_16 : level_of 16 ≡ 1
  pub level_255 : level_of 255 ≡ 15
  -- from 000, HAM sets red, blue and green
  pub starts_black : ham.start ≡ 0
  pub red : Shows ham 0 47 3840
  pub blue : Shows ham 0 31 15
  pub green : Shows ham 0 63 240
  -- half of fa3 is 751
  pub half : Shows half_brite 0 37 1873
  -- a sum that passes top takes its count with it
  pub past_top : pair.join (pair_of top 0) (pair_of 1 0) ≡ pair_of top top
  -- so joining the same cost to two others keeps their order, at top too
  pub before : AtMost pair (pair_of (top - 1) 5) (pair_of top 0)
  pub after : AtMost pair (pair.join (pair_of (top - 1) 5) (pair_of 1 0)) (pair.join (pair_of top 0) (pair_of 1 0))
  -- 55 23 shows 070 077 and costs 64
  pub green_blue_legal : Legal ham green_blue
  pub green_blue_shows : preview_of ham green_blue ≡ 112 ∷ 119 ∷ []
  pub green_blue_summed : cost_of ham summed green_blue wanted ≡ summed_of 64
  pub green_blue_worst : cost_of ham worst green_blue wanted ≡ worst_of 64
  pub green_blue_pair : cost_of ham pair green_blue wanted ≡ pair_of 64 2
  -- 40 0 shows 800 000 and costs 147
  pub nearest_legal : Legal ham nearest
  pub nearest_shows : preview_of ham nearest ≡ 2048 ∷ 0 ∷ []
  pub nearest_summed : cost_of ham summed nearest wanted ≡ summed_of 147
  pub nearest_worst : cost_of ham worst nearest wanted ≡ worst_of 98
  pub nearest_pair : cost_of ham pair nearest wanted ≡ pair_of 147 1
  -- and yet no code comes nearer at either pixel
  pub first_error : error_of (levels_of first) 2048 ≡ 49
  pub first_nearest : (c t : ℕ) → Steps ham 0 c t → 49 ≤ error_of (levels_of first) (ham.shown t)
  pub second_error : error_of (levels_of second) 0 ≡ 98
  pub second_nearest : (c t : ℕ) → Steps ham 2048 c t → 98 ≤ error_of (levels_of second) (ham.shown t)

-- What close gives.
pub record WorkedLines : Type 0 where
  -- By summed cost the editor's line is 55 23: no line costs less than 64.
  pub editor_summed : Closes ham summed wanted green_blue (colour_of 0 7 0 ∷ colour_of 0 7 7 ∷ []) (summed_of 64)
  -- By worst it is 55 52, which shows 070 040: at the second pixel 9 + 49 = 58 does not count beside 64, and 040 is the lowest state at 64.
  pub editor_worst : Closes ham worst wanted (55 ∷ 52 ∷ []) (colour_of 0 7 0 ∷ colour_of 0 4 0 ∷ []) (worst_of 64)
  -- With fff in register 1 three lines come to ff0 at 225: through 0f0, f00 and fff. The lowest of these states is 0f0.
  pub white_register : Closes white_ham summed (yellow ∷ yellow ∷ []) (63 ∷ 47 ∷ []) (colour_of 0 15 0 ∷ colour_of 15 15 0 ∷ []) (summed_of 225)
  -- In fill mode code 1 and code 0 both make the second pixel f00. Pair counts code 0, since it holds, so that code 1 is cheaper.
  pub fill_pair : Closes fill pair (full_red ∷ full_red ∷ full_green ∷ []) (1 ∷ 1 ∷ 2 ∷ []) (colour_of 15 0 0 ∷ colour_of 15 0 0 ∷ colour_of 0 15 0 ∷ []) (pair_of 0 0)
  -- For summed they cost the same, and the lower code goes first.
  pub fill_summed : Closes fill summed (full_red ∷ full_red ∷ full_green ∷ []) (1 ∷ 0 ∷ 2 ∷ []) (colour_of 15 0 0 ∷ colour_of 15 0 0 ∷ colour_of 0 15 0 ∷ []) (summed_of 0)
