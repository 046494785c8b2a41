-- What the bids of one state do to the column that they are made for.
use Rattle.std.specs.Prelude.{ℕ, suc, cond, List, [], ◌∷◌, Some, None, Option}
use Rattle.cost.specs.Kind.{Kind}
use Rattle.viterbi.specs.Columns.{leads}
use Rattle.viterbi.specs.Ways.{Stage}

-- what state s, reached at this cost, bids for t by code c
abbrev pub offer : {C : Type 0} → Kind C → C → Stage C → ℕ → ℕ → ℕ → Option C
offer k cost p t s c = cond (leads (p.next s c) t) (Some (k.join cost (p.price c t))) None

-- each element becomes F of its place and itself
unfoldable pub indexed : {X : Type 0} → (ℕ → X → X) → List X → List X
indexed F [] = []
indexed F (x ∷ xs) = F 0 x ∷ indexed (λ t. F (suc t)) xs
