-- What `any` and `fold` answer over the numbers below n, and `any` over a list whose places are numbered.
use Rattle.std.proofs.Common.{◌≡◌, ℕ, zero, suc, ◌+◌, ◌≤◌, Bool, true, false, ◌||◌, List, [], ◌∷◌, ◌++◌, fold, length, get_or, take, Option, sym, refl, ap, ◌∙◌, ap₂, zero-add, add-one, arith}
use mathlib.Core.Bool.{or-false}
use denote.Param.Members.{Mut}
use Rattle.std.specs.declared.ops.Range.{Range}
use Rattle.std.specs.Fn.{Called}
use Rattle.std.specs.Iterator.{Drains, YieldsThen}
use Rattle.std.specs.List.{FoldsTo, list_any, range_with_len, zip}
use Rattle.std.specs.Option.{MatchOption}
use Rattle.std.proofs.iter.Yields.{nat_range_steps}
use Rattle.std.proofs.lemmas.Fn.{fold_over}
use Rattle.std.proofs.lemmas.Iterator.{YieldsList-from_range}
use Rattle.std.proofs.lemmas.Iterator.Search.{any_from_yields_List}
use Rattle.std.proofs.lemmas.List.{map-id, take_all}
use Rattle.std.proofs.lemmas.List.Folds.{list_any-append, list_any_more}
use Rattle.std.proofs.lemmas.List.FromFn.{get_or-range_with_len, length-range_with_len, map-range_with_len_more}
use Rattle.std.proofs.lemmas.List.Sums.{fold-append}
use Rattle.std.proofs.lemmas.Slice.Zip.{get_or-zip, length-zip}
use Rattle.viterbi.specs.Columns.{any_below}

-- one number more
range_more : (n : ℕ) → range_with_len 0 (suc n) ≡ range_with_len 0 n ++ n ∷ []
range_more n =
    ap (range_with_len 0) (sym (add-one n))
    ∙ sym (map-id (range_with_len 0 (n + 1)))
    ∙ map-range_with_len_more (λ i. i) 0 n n (zero-add n)
    ∙ ap (λ ns. ns ++ n ∷ []) (map-id (range_with_len 0 n))

-- `below n` stands for the range 0..n
abbrev pub below : ℕ → Range ℕ
below n = record { start = 0; end = n }

module _ {F : Type 0} (n : ℕ) (f : F) where
  passed : (test : ℕ → Bool) (n : ℕ) → list_any test (range_with_len 0 n) ≡ any_below n test
  passed test zero = refl
  passed test (suc n) =
      ap (list_any test) (range_more n) ∙ list_any-append test (range_with_len 0 n) (n ∷ []) ∙ ap₂ ◌||◌ (passed test n) (or-false (test n))

  -- the closure answers `test` and stays as it is
  pub any_in_range : {g : Mut F (ℕ × Unit {0}) Bool} (test : ℕ → Bool) (u : Range ℕ) (r : Bool) →
      (xs : List ℕ) × (o : Option ℕ) × (j : F) × YieldsThen nat_range_steps (below n) xs o u × FoldsTo (λ p x q. Called g p (x, tt) false q) f xs j × MatchOption o (r ≡ false) (λ x. (r ≡ true) × ((h : F) × Called g j (x, tt) true h)) →
      ((x : ℕ) (b : Bool) (q : F) → Called g f (x, tt) b q → (q ≡ f) × (b ≡ test x)) → r ≡ any_below n test
  any_in_range test u r ran calls =
      any_from_yields_List test u f r ran (YieldsList-from_range {s = below n} 0 n n refl (omega arith)) calls ∙ passed test n

  turned : {B : Type 0} (turn : B → ℕ → B) (G : ℕ → B) → ((i : ℕ) → G (suc i) ≡ turn (G i) i) → (n : ℕ) → fold turn (G 0) (range_with_len 0 n) ≡ G n
  turned turn G more zero = refl
  turned turn G more (suc n) =
      ap (fold turn (G 0)) (range_more n) ∙ fold-append turn (G 0) (range_with_len 0 n) (n ∷ []) ∙ ap (λ x. turn x n) (turned turn G more n) ∙ sym (more n)

  -- the closure takes a turn of G and stays as it is
  pub fold_in_range : {B : Type 0} {g : Mut F (B × (ℕ × Unit {0})) B} (turn : B → ℕ → B) (G : ℕ → B) → ((i : ℕ) → G (suc i) ≡ turn (G i) i) → (r : B) →
      (xs : List ℕ) × (f' : F) × Drains nat_range_steps (below n) xs × FoldsTo {P = F × B} (λ p x q. Called g p.0 (p.1, (x, tt)) q.1 q.0) (f, G 0) xs (f', r) →
      ((a : B) (x : ℕ) (b : B) (q : F) → Called g f (a, (x, tt)) b q → (q ≡ f) × (b ≡ turn a x)) → r ≡ G n
  fold_in_range {B} {g} turn G more r ran calls =
      fold_over nat_range_steps (λ x. x) g (λ ys a. a ≡ fold turn (G 0) ys) f step (below n) (range_with_len 0 n) (G 0) r (YieldsList-from_range {s = below n} 0 n n refl (omega arith)).runs refl ran
      ∙ turned turn G more n
    where
      step : (ys : List ℕ) (a : B) (x : ℕ) (b : B) (q : F) → a ≡ fold turn (G 0) ys → Called g f (a, (x, tt)) b q → (b ≡ fold turn (G 0) (ys ++ x ∷ [])) × (q ≡ f)
      step ys a x b q so_far call =
          let one = calls a x b q call in
          (one.1 ∙ ap (λ c. turn c x) so_far ∙ sym (fold-append turn (G 0) ys (x ∷ [])), one.0)

-- each element of a list beside the number of its place
module _ {X : Type 0} (test : ℕ × X → Bool) (xs : List X) (n : ℕ) (d : X) (sized : length xs ≡ n) where
  long : length (zip (range_with_len 0 n) xs) ≡ n
  long =
      let counted = length-range_with_len 0 n in
      let both = length-zip (range_with_len 0 n) xs in
      omega (arith, counted, both, sized)

  numbered_below : (i : ℕ) → i ≤ n → list_any test (take i (zip (range_with_len 0 n) xs)) ≡ any_below i (λ s. test (s, get_or xs s d))
  numbered_below zero h = refl
  numbered_below (suc i) h =
      ap (λ j. list_any test (take j (zip (range_with_len 0 n) xs))) (sym (add-one i))
      ∙ list_any_more test (zip (range_with_len 0 n) xs) i (0, d) (omega (arith, long))
      ∙ ap₂ ◌||◌ (numbered_below i (omega arith))
      (ap test (get_or-zip (range_with_len 0 n) xs i (0, d) (omega (arith, length-range_with_len 0 n)) (omega (arith, sized)) ∙ ap (λ s. (s, get_or xs i d)) (get_or-range_with_len 0 n i 0 (omega arith) ∙ zero-add i)))

  pub any_numbered : list_any test (zip (range_with_len 0 n) xs) ≡ any_below n (λ s. test (s, get_or xs s d))
  any_numbered = ap (list_any test) (sym (take_all n (zip (range_with_len 0 n) xs) (omega (arith, long)))) ∙ numbered_below n (omega arith)
