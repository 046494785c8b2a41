-- The first of the nearest, picked from the codes that have a next state.
use denote.Param.Members.{Mut}
use Rattle.std.proofs.Common.{◌≡◌, ℕ, zero, suc, ◌+◌, cond, List, [], ◌∷◌, map, nat_le, Some, None, Option, Bor, refl, sym, ap, ◌∙◌, subst, arith}
use Rattle.std.proofs.lemmas.Bool.Decides.{nat_tests}
use Rattle.std.proofs.lemmas.List.{map-id}
use Rattle.std.proofs.lemmas.Iterator.{YieldsList, items_from_drains}
use Rattle.std.specs.Fn.{CalledAt}
use Rattle.std.specs.Iterator.{Drains, KeyTurn, PicksMinByKey}
use Rattle.std.specs.List.{FoldsTo, cons_option, filter_map, range_with_len}
use Rattle.std.specs.declared.cmp.Ordering.{Ordering}
use Rattle.std.specs.declared.cmp.Ordering.TheVariants.{Less, Equal, Greater}
use Rattle.std.specs.Ordering.{nat_cmp, min_by_ordering}
use Rattle.display.specs.Colours.{error_of}
use Rattle.display.specs.Machine.{Meaning}
use Rattle.display.specs.declared.colour.Levels.{Levels}
use Rattle.editor_line.specs.declared.nearest.Choice.{Choice}
use Rattle.editor_line.specs.Nearest.{NearestBelow, nearer_of}
use Rattle.editor_line.proofs.Search.{skip_code, take_code}

-- the best of choices, each weighed against the one before it
abbrev best_of : Option Choice → List Choice → Option Choice
best_of best [] = best
best_of best (new ∷ choices) = best_of (Some (nearer_of best new)) choices

module _ (m : Meaning) (s : ℕ) (wanted : Levels) where
  abbrev choice_to : ℕ → Option ℕ → Option Choice
  choice_to code None = None
  choice_to code (Some next) = Some (record { code = code; state = next; error = error_of wanted (m.shown next) })

  -- the choice of a code, if it has a next state
  abbrev pub choice_of : ℕ → Option Choice
  choice_of code = choice_to code (m.step s code)

  best_near : (i n : ℕ) (best : Option Choice) → NearestBelow m s wanted i best → NearestBelow m s wanted (i + n) (best_of best (filter_map choice_of (range_with_len i n)))
  best_near i zero best inv = subst (λ k. NearestBelow m s wanted k best) (omega arith) inv
  best_near i (suc n) best inv =
      subst (λ k. NearestBelow m s wanted k (best_of best (filter_map choice_of (range_with_len i (suc n))))) (omega arith)
      (go (m.step s i) refl (λ b h. best_near (i + 1) n b h))
    where
      go : (o : Option ℕ) → m.step s i ≡ o →
          ((b : Option Choice) → NearestBelow m s wanted (i + 1) b → NearestBelow m s wanted (i + 1 + n) (best_of b (filter_map choice_of (range_with_len (i + 1) n)))) →
          NearestBelow m s wanted (i + 1 + n) (best_of best (cons_option (choice_to i o) (filter_map choice_of (range_with_len (i + 1) n))))
      go None e on = on best (skip_code m s wanted i best e inv)
      go (Some t) e on =
          on (Some (nearer_of best (record { code = i; state = t; error = error_of wanted (m.shown t) })))
          (take_code m s wanted i t (error_of wanted (m.shown t)) e refl best inv)

min_is : (a b : ℕ) (x z : Choice) → min_by_ordering (nat_cmp a b) x z ≡ cond (nat_le a b) x z
min_is a b x z = grind (arith, nat_tests)

key_is : (o : Ordering) (a b : ℕ) (x z : Choice) → a ≡ x.error → b ≡ z.error → min_by_ordering o a b ≡ (min_by_ordering o x z).error
key_is Less a b x z e f = e
key_is Equal a b x z e f = e
key_is Greater a b x z e f = f

module _ {F : Type 0} (g : Mut F (Bor Choice × Unit {0}) ℕ) (f : F) (call : (x : Choice) (k : ℕ) (q : F) → CalledAt g f x k q → (q ≡ f) × (k ≡ x.error)) where
  picks : (x : Choice) (xs : List Choice) (p : F) (k : ℕ) (q : F × ℕ) (y : Choice) → p ≡ f → k ≡ x.error →
      FoldsTo {P = (F × ℕ) × Choice} (KeyTurn min_by_ordering min_by_ordering g nat_cmp) ((p, k), x) xs (q, y) → best_of (Some x) xs ≡ Some y
  picks x [] p k q y same e end = ap Some (ap (λ t. t.1) end)
  picks x (z ∷ zs) p k q y same e (next, (k', o, called, compared, key, item), rest) =
      let said = call z k' next.0.0 (subst (λ r. CalledAt g r z k' next.0.0) same called) in
      let nearer : next.1 ≡ nearer_of (Some x) z =
      item ∙ ap (λ r. min_by_ordering r x z) (sym compared ∙ ap (λ a. nat_cmp a k') e ∙ ap (nat_cmp x.error) said.1) ∙ min_is x.error z.error x z
      in
      ap (λ b. best_of (Some b) zs) (sym nearer)
      ∙ picks next.1 zs next.0.0 next.0.1 q y said.0 (key ∙ key_is o k k' x z e said.1 ∙ ap (λ c. c.error) (sym item)) rest

  -- a chain that gives the choices of the codes below n
  module _ {S : Type 0} {steps : S → Option Choice → S → Type 0} {it : S} (m : Meaning) (s : ℕ) (wanted : Levels) (n : ℕ)
      (gives : YieldsList steps (λ x. x) it (filter_map (choice_of m s wanted) (range_with_len 0 n))) where
    drained : (xs : List Choice) → Drains steps it xs → map (λ x. x) xs ≡ filter_map (choice_of m s wanted) (range_with_len 0 n)
    drained xs (u, (t, given, none)) = items_from_drains xs (t, given, λ _. (u, none)) gives

    best : NearestBelow m s wanted (0 + n) (best_of None (filter_map (choice_of m s wanted) (range_with_len 0 n)))
    best = best_near m s wanted 0 n None (λ c t h st. absurd (omega arith))

    near : (r : Option Choice) → best_of None (filter_map (choice_of m s wanted) (range_with_len 0 n)) ≡ r → NearestBelow m s wanted n r
    near r e = let k : 0 + n ≡ n = omega arith in subst (λ o. NearestBelow m s wanted n o) e (subst (λ i. NearestBelow m s wanted i (best_of None (filter_map (choice_of m s wanted) (range_with_len 0 n)))) k best)

    pub nearest_picked : (r : Option Choice) → PicksMinByKey steps g nat_cmp it f r → NearestBelow m s wanted n r
    nearest_picked None all = near None (ap (best_of None) (sym (drained [] all)))
    nearest_picked (Some y) (x, xs, k, f', q, all, called, turns) =
        let said = call x k f' called in
        near (Some y) (ap (best_of None) (sym (drained (x ∷ xs) all) ∙ map-id (x ∷ xs)) ∙ picks x xs f' k q y said.0 said.1 turns)
