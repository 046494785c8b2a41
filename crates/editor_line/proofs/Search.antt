-- One more code of a search, and one more pixel of a line.
use Rattle.std.proofs.Common.{◌≡◌, ℕ, ◌+◌, ◌<◌, ◌≤◌, ◌⊎◌, List, [], ◌∷◌, ◌++◌, length, drop, Some, None, Option, refl, ap, ◌∙◌, subst, inl, inr, append_assoc, append-nil, arith}
use Rattle.std.proofs.lemmas.Bool.{cases_lt, le-leb, lt-leb}
use Rattle.std.proofs.lemmas.List.{drop_all}
use Rattle.display.specs.Colours.{error_of, levels_of}
use Rattle.display.specs.Machine.{Meaning, Steps}
use Rattle.display.specs.declared.colour.Levels.{Levels}
use Rattle.display.specs.declared.colour.Target.{Target}
use Rattle.editor_line.specs.declared.nearest.Choice.{Choice}
use Rattle.editor_line.specs.Nearest.{Nearest, NearestBelow, NearestLine, nearer_of}

-- two places at or below k: below it, or at it
at_or_below : (c k : ℕ) → c < k + 1 → (c < k) ⊎ (c ≡ k)
at_or_below c k h = elim (cases_lt c k) [ inl l ↦ inl l | inr l ↦ inr (omega arith) ]

module _ (m : Meaning) (s : ℕ) (wanted : Levels) (k : ℕ) where
  -- the code k has no next state
  no_here : (c t : ℕ) → c ≡ k → m.step s k ≡ None → Steps m s c t → ⊥
  no_here c t e none steps =
      let s' : m.step s k ≡ Some t = subst (λ n. m.step s n ≡ Some t) e steps in
      let z : ◌≡◌ {A = ℕ} 0 1 = cc in
      omega arith

  pub skip_code : (best : Option Choice) → m.step s k ≡ None → NearestBelow m s wanted k best → NearestBelow m s wanted (k + 1) best
  skip_code None none inv =
      λ c t h steps. elim (at_or_below c k h) [ inl l ↦ inv c t l steps | inr e ↦ no_here c t e none steps ]
  skip_code (Some choice) none inv = record {
    below = omega (arith, inv.below);
    steps = inv.steps;
    error = inv.error;
    least = λ c t h steps. elim (at_or_below c k h) [ inl l ↦ inv.least c t l steps | inr e ↦ absurd (no_here c t e none steps) ];
    first = inv.first;
  }

  -- the code k leads to state t
  module _ (t : ℕ) (e : ℕ) (steps : Steps m s k t) (is : e ≡ error_of wanted (m.shown t)) where
    same_error : (c t' : ℕ) → c ≡ k → Steps m s c t' → e ≡ error_of wanted (m.shown t')
    same_error c t' h steps' =
        let q : m.step s k ≡ Some t' = subst (λ n. m.step s n ≡ Some t') h steps' in
        let r : t ≡ t' = cc in
        is ∙ ap (λ u. error_of wanted (m.shown u)) r

    pub take_code : (best : Option Choice) → NearestBelow m s wanted k best → Nearest m s wanted (k + 1) (nearer_of best (record { code = k; state = t; error = e }))
    take_code None inv = record {
      below = omega arith;
      steps = steps;
      error = is;
      least = λ c t' h st. elim (at_or_below c k h) [ inl l ↦ absurd (inv c t' l st) | inr q ↦ omega (arith, same_error c t' q st) ];
      first = λ c t' h st. absurd (inv c t' h st);
    }
    take_code (Some old) inv =
        elim (cases_lt e old.error) [
          | inl h ↦ rw (lt-leb old.error e h) (record {
            below = omega arith;
            steps = steps;
            error = is;
            least = λ c t' l st. elim (at_or_below c k l) [ inl l ↦ omega (arith, inv.least c t' l st) | inr q ↦ omega (arith, same_error c t' q st) ];
            first = λ c t' l st. omega (arith, inv.least c t' l st);
          })
          | inr h ↦ rw (le-leb old.error e h) (record {
            below = omega (arith, inv.below);
            steps = inv.steps;
            error = inv.error;
            least = λ c t' l st. elim (at_or_below c k l) [ inl l ↦ inv.least c t' l st | inr q ↦ omega (arith, same_error c t' q st) ];
            first = inv.first;
          })
        ]

-- a line as far as it is chosen: whatever goes on from state t by the targets left goes on the whole line
abbrev pub Goes : Meaning → List Target → List ℕ → ℕ → ℕ → Type 0
Goes m targets codes t i = (rest : List ℕ) → NearestLine m t (drop i targets) rest → NearestLine m m.start targets (codes ++ rest)

module _ (m : Meaning) (targets : List Target) (codes : List ℕ) (t i : ℕ) where
  module _ (target : Target) (next : drop i targets ≡ target ∷ drop (i + 1) targets) (goes : Goes m targets codes t i) where
    pub goes_on : (choice : Choice) → Nearest m t (levels_of target) m.codes choice → Goes m targets (codes ++ choice.code ∷ []) choice.state (i + 1)
    goes_on choice near rest line =
        rw append_assoc (goes (choice.code ∷ rest) (rw next (choice, refl, near, line)))

    pub goes_not : NearestBelow m t (levels_of target) m.codes None → NearestLine m m.start targets codes
    goes_not none = rw append-nil at (goes [] (rw next none))

  pub goes_all : length targets ≤ i → Goes m targets codes t i → NearestLine m m.start targets codes
  goes_all h goes = rw append-nil at (goes [] (rw (drop_all i targets h) refl))
