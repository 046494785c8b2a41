-- The nearest colour, pixel by pixel.
use Rattle.std.specs.Prelude.{◌≡◌, ℕ, ◌<◌, ◌≤◌, cond, List, [], ◌∷◌, Some, None, Option, nat_le}
use Rattle.display.specs.Colours.{error_of, levels_of}
use Rattle.display.specs.Machine.{Meaning, Steps}
use Rattle.display.specs.declared.colour.Levels.{Levels}
use Rattle.display.specs.declared.colour.Target.{Target}
use Rattle.editor_line.specs.declared.nearest.Choice.{Choice}

-- the older of two choices, unless the newer has less error
abbrev pub nearer_of : Option Choice → Choice → Choice
nearer_of None new = new
nearer_of (Some old) new = cond (nat_le old.error new.error) old new

-- among the codes below k, a choice is the first of the nearest from state s
pub record Nearest (m : Meaning) (s : ℕ) (wanted : Levels) (k : ℕ) (choice : Choice) : Type 0 where
  pub below : choice.code < k
  pub steps : Steps m s choice.code choice.state
  pub error : choice.error ≡ error_of wanted (m.shown choice.state)
  -- every other code shows a colour that is at least as far, and each one before it one that is farther
  pub least : (c t : ℕ) → c < k → Steps m s c t → choice.error ≤ error_of wanted (m.shown t)
  pub first : (c t : ℕ) → c < choice.code → Steps m s c t → choice.error < error_of wanted (m.shown t)

-- the first of the nearest, or none where no code below k has a next state
abbrev pub NearestBelow : Meaning → ℕ → Levels → ℕ → Option Choice → Type 0
NearestBelow m s wanted k None = (c t : ℕ) → c < k → Steps m s c t → ⊥
NearestBelow m s wanted k (Some choice) = Nearest m s wanted k choice

-- each code of a line is the first of the nearest at its pixel; the line ends with the targets, or where no code has a next state
abbrev pub NearestLine : Meaning → ℕ → List Target → List ℕ → Type 0
NearestLine m s [] codes = codes ≡ []
NearestLine m s (target ∷ targets) [] = NearestBelow m s (levels_of target) m.codes None
NearestLine m s (target ∷ targets) (c ∷ cs) =
    (choice : Choice) × (choice.code ≡ c) × Nearest m s (levels_of target) m.codes choice × NearestLine m choice.state targets cs
