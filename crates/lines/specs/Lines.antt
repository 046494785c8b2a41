-- Code lines: which are legal, what they show, and what they cost.
use Rattle.std.specs.Prelude.{◌≡◌, ℕ, true, List, [], ◌∷◌, is_some}
use Rattle.std.specs.Option.{unwrap_or}
use Rattle.cost.specs.Kind.{Kind}
use Rattle.display.specs.Colours.{error_of, levels_of}
use Rattle.display.specs.Machine.{Meaning}
use Rattle.display.specs.declared.colour.Levels.{Levels}
use Rattle.display.specs.declared.colour.Target.{Target}

-- the state after a code; where the code has no next state, as before
abbrev pub after_code : Meaning → ℕ → ℕ → ℕ
after_code m s c = unwrap_or (m.step s c) s

-- each code, taken in turn from state s, has a next state
abbrev pub LegalFrom : Meaning → ℕ → List ℕ → Type 0
LegalFrom m s [] = Unit {0}
LegalFrom m s (c ∷ cs) = (is_some (m.step s c) ≡ true) × LegalFrom m (after_code m s c) cs

-- a legal code line
abbrev pub Legal : Meaning → List ℕ → Type 0
Legal m codes = LegalFrom m m.start codes

-- the colour shown after each code
abbrev pub preview_from : Meaning → ℕ → List ℕ → List ℕ
preview_from m s [] = []
preview_from m s (c ∷ cs) = m.shown (after_code m s c) ∷ preview_from m (after_code m s c) cs

abbrev pub preview_of : Meaning → List ℕ → List ℕ
preview_of m codes = preview_from m m.start codes

-- the price of a pixel whose code c led to state t
abbrev pub price_at : {C : Type 0} → Meaning → Kind C → Levels → ℕ → ℕ → C
price_at m k wanted c t = k.price (error_of wanted (m.shown t)) (m.holds c)

-- a cost, and then pixel by pixel the price joined to it on the right
abbrev pub cost_from : {C : Type 0} → Meaning → Kind C → C → ℕ → List ℕ → List Target → C
cost_from m k sum s [] targets = sum
cost_from m k sum s (c ∷ cs) [] = sum
cost_from m k sum s (c ∷ cs) (target ∷ targets) =
    cost_from m k (k.join sum (price_at m k (levels_of target) c (after_code m s c))) (after_code m s c) cs targets

-- the cost of a code line by its targets
abbrev pub cost_of : {C : Type 0} → Meaning → Kind C → List ℕ → List Target → C
cost_of m k codes targets = cost_from m k k.zero m.start codes targets

-- targets by their bytes: red, green and blue of each
abbrev pub targets_of : List ℕ → List Target
targets_of [] = []
targets_of (red ∷ []) = []
targets_of (red ∷ green ∷ []) = []
targets_of (red ∷ green ∷ blue ∷ bytes) = record { red = red; green = green; blue = blue } ∷ targets_of bytes
