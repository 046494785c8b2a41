-- Results of a call that answers one value each time.
use Rattle.std.proofs.Common.{◌≡◌, List, [], ◌∷◌, length, ◌∙◌, ap, ap₂, refl}
use lib.ListN.{replicate}
use Rattle.std.specs.List.{FoldsTo}

pub all_alike : {P X : Type 0} (R : P → X → P → Type 0) (of : P → X) → ((p : P) (x : X) (q : P) → R p x q → (x ≡ of p) × (of q ≡ of p)) →
    (p : P) (xs : List X) (last : P) → FoldsTo R p xs last → xs ≡ replicate (length xs) (of p)
all_alike R of each p [] last folds = refl
all_alike R of each p (x ∷ xs) last folds =
    let (q, calls, rest) = folds in
    let e = each p x q calls in
    ap₂ (λ y ys. y ∷ ys) e.0 (all_alike R of each q xs last rest ∙ ap (replicate (length xs)) e.1)
