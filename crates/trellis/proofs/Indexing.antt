-- Lists that are changed place by place.
use Rattle.std.proofs.Common.{◌≡◌, ℕ, zero, suc, ◌+◌, ◌≢◌, List, [], ◌∷◌, map, get_or, set, sym, refl, ap, ◌∙◌, ap₂, zero-add, arith}
use Rattle.std.specs.List.{range_with_len}
use Rattle.trellis.specs.Bids.{indexed}

module _ {X : Type 0} where
  pub indexed-none : (F : ℕ → X → X) → ((t : ℕ) (x : X) → F t x ≡ x) → (xs : List X) → xs ≡ indexed F xs
  unfolding indexed
  indexed-none F idle [] = refl
  indexed-none F idle (x ∷ xs) = ap₂ ◌∷◌ (sym (idle 0 x)) (indexed-none (λ t. F (suc t)) (λ t. idle (suc t)) xs)

  pub indexed-indexed : (F G : ℕ → X → X) (xs : List X) → indexed G (indexed F xs) ≡ indexed (λ t x. G t (F t x)) xs
  unfolding indexed
  indexed-indexed F G [] = refl
  indexed-indexed F G (x ∷ xs) = ap (◌∷◌ (G 0 (F 0 x))) (indexed-indexed (λ t. F (suc t)) (λ t. G (suc t)) xs)

  -- a write to one place, where F changes no other
  pub indexed-set : (F : ℕ → X → X) (xs : List X) (t : ℕ) (d : X) → ((u : ℕ) (x : X) → u ≢ t → F u x ≡ x) → set xs t (F t (get_or xs t d)) ≡ indexed F xs
  unfolding indexed
  indexed-set F [] t d idle = refl
  indexed-set F (x ∷ xs) zero d idle = ap (◌∷◌ (F 0 x)) (indexed-none (λ u. F (suc u)) (λ u y. idle (suc u) y (omega arith)) xs)
  indexed-set F (x ∷ xs) (suc t) d idle =
      ap₂ ◌∷◌ (sym (idle 0 x (omega arith))) (indexed-set (λ u. F (suc u)) xs t d (λ u y ne. idle (suc u) y (omega arith)))

  -- a list that is made place by place, from place a on
  from_place : (F G : ℕ → X → X) (f : ℕ → X) (a n : ℕ) → ((t : ℕ) (x : X) → F t x ≡ G (a + t) x) → indexed F (map f (range_with_len a n)) ≡ map (λ t. G t (f t)) (range_with_len a n)
  unfolding indexed
  from_place F G f a zero same = refl
  from_place F G f a (suc n) same =
      ap₂ ◌∷◌ (same 0 (f a) ∙ ap (λ t. G t (f a)) (omega arith))
      (from_place (λ t. F (suc t)) G f (a + 1) n (λ t x. same (suc t) x ∙ ap (λ u. G u x) (omega arith)))

  pub indexed-map : (F : ℕ → X → X) (f : ℕ → X) (n : ℕ) → indexed F (map f (range_with_len 0 n)) ≡ map (λ t. F t (f t)) (range_with_len 0 n)
  indexed-map F f n = from_place F F f 0 n (λ t x. ap (λ u. F u x) (sym (zero-add t)))
