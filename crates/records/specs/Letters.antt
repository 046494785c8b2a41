-- The letters of a header, and the display that a palette makes.
use Rattle.std.specs.Prelude.{ℕ, ◌+◌, ◌*◌, cond, List, [], ◌∷◌, Some, None, Option, ◌==◌}
use Rattle.display.specs.Displays.{ham_meaning, half_brite_meaning, fill_meaning}
use Rattle.display.specs.Machine.{Meaning}
use Rattle.records.specs.declared.display_kind.AnyDisplay.{AnyDisplay}
use Rattle.records.specs.declared.display_kind.AnyDisplay.TheVariants.{Ham as ham, HalfBrite as half_brite, Fill as fill}
use Rattle.records.specs.declared.display_kind.CostKind.{CostKind}
use Rattle.records.specs.declared.display_kind.CostKind.TheVariants.{Summed, Worst, Pair}
use Rattle.records.specs.declared.display_kind.MachineKind.{MachineKind}
use Rattle.records.specs.declared.display_kind.MachineKind.TheVariants.{Ham, HalfBrite, Fill}

-- H, E or F
abbrev pub machine_of : ℕ → Option MachineKind
machine_of letter = cond (letter == 72) (Some Ham) (cond (letter == 69) (Some HalfBrite) (cond (letter == 70) (Some Fill) None))

-- S, W or P
abbrev pub cost_of_letter : ℕ → Option CostKind
cost_of_letter letter = cond (letter == 83) (Some Summed) (cond (letter == 87) (Some Worst) (cond (letter == 80) (Some Pair) None))

-- how many colours a display's palette has
abbrev pub colours_of : MachineKind → ℕ
colours_of Ham = 16
colours_of HalfBrite = 32
colours_of Fill = 16

-- numbers of two bytes, the low byte first
abbrev pub number_of_bytes : ℕ → ℕ → ℕ
number_of_bytes low high = low + 256 * high

-- the numbers in a list of bytes
abbrev pub words : List ℕ → List ℕ
words [] = []
words (low ∷ []) = []
words (low ∷ high ∷ bytes) = number_of_bytes low high ∷ words bytes

abbrev pub meaning_of : AnyDisplay → Meaning
meaning_of (ham h) = ham_meaning h
meaning_of (half_brite e) = half_brite_meaning e
meaning_of (fill f) = fill_meaning f

-- the display of a kind with these colours
abbrev pub display_of : MachineKind → List ℕ → AnyDisplay
display_of Ham colours = ham (record { registers = colours })
display_of HalfBrite colours = half_brite (record { registers = colours })
display_of Fill colours = fill (record { entries = colours })
