-- Totals of costs.
use Rattle.std.specs.Prelude.{List, [], ◌∷◌}
use Rattle.cost.specs.Kind.{Kind, AtMost}

-- zero joined with each cost in order; the last cost stands first in the list
abbrev pub total : {C : Type 0} → Kind C → List C → C
total k [] = k.zero
total k (x ∷ xs) = k.join (total k xs) x

-- as many costs in both lists, and each of the first at most the one beside it
abbrev pub EachAtMost : {C : Type 0} → Kind C → List C → List C → Type 0
EachAtMost k [] [] = Unit {0}
EachAtMost k [] (y ∷ ys) = ⊥
EachAtMost k (x ∷ xs) [] = ⊥
EachAtMost k (x ∷ xs) (y ∷ ys) = AtMost k x y × EachAtMost k xs ys
