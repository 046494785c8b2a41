-- The survivor is the first of the cheapest bids, and there is only one such cell.
use Rattle.std.proofs.Common.{◌≡◌, ℕ, zero, suc, ◌<◌, true, false, ◌&&◌, ◌⊎◌, Some, None, Option, sym, refl, ◌∙◌, inl, inr, ⊎_elim, arith}
use Rattle.std.proofs.lemmas.Bool.{cond_both, and_parts, and_cases, both_ways, true≢false, cases_eq, cases_Bool}
use Rattle.cost.specs.Kind.{Kind, Lawful, AtMost}
use Rattle.viterbi.specs.declared.Cell.{Cell}
use Rattle.viterbi.specs.Columns.{tried, tried_codes, survivor, NoLater, Won, Survives}

module _ {C : Type 0} (k : Kind C) (law : Lawful k) where
  -- each cost is at most itself
  pub reflexive : (x : C) → AtMost k x x
  reflexive x = ⊎_elim (λ e. e) (law.total x x) (cases_Bool (k.at_most x x))

  -- the same bids, said in another way
  pub survives_as : (B D : ℕ → ℕ → C → Type 0) (cell : Cell C) → ((s c : ℕ) (x : C) → B s c x → D s c x) → ((s c : ℕ) (x : C) → D s c x → B s c x) → Survives k B cell → Survives k D cell
  survives_as B D cell there back (inl (e, none)) = inl (e, λ s c x d. none s c x (back s c x d))
  survives_as B D cell there back (inr w) =
      inr (record { held = w.held; bids = there _ _ _ w.bids; least = λ s c x d. w.least s c x (back s c x d); first = λ s c d. w.first s c (back s c _ d) })

  -- One more bid, later than all of B: the cell stays or is taken.
  abbrev More : (ℕ → ℕ → C → Type 0) → ℕ → ℕ → Option C → ℕ → ℕ → C → Type 0
  More B s c bid t d x = B t d x ⊎ ((t ≡ s) × (d ≡ c) × (bid ≡ Some x))

  module _ (B : ℕ → ℕ → C → Type 0) (s c : ℕ) (later : (t d : ℕ) (x : C) → B t d x → NoLater t d s c) (cell : Cell C) where
    keeps : (x : C) → (cell.reached && k.at_most cell.cost x) ≡ true → Survives k B cell → Survives k (More B s c (Some x)) cell
    keeps x e (inl (b, none)) = absurd (true≢false (cc))
    keeps x e (inr w) =
        let below = (and_parts cell.reached (k.at_most cell.cost x) e).1 in
        inr (record {
          held = w.held;
          bids = inl w.bids;
          least = λ t d y. elim [ inl b ↦ w.least t d y b | inr n ↦ cc ];
          first = λ t d. elim [ inl b ↦ w.first t d b | inr n ↦ rw n.0 (rw n.1 (later _ _ _ w.bids)) ];
        })

    takes : (x : C) → (cell.reached && k.at_most cell.cost x) ≡ false → Survives k B cell → Survives k (More B s c (Some x)) (record { reached = true; cost = x; prev = s; code = c })
    takes x e v = inr (record {
      held = refl;
      bids = inr (refl, refl, refl);
      least = λ t d y. elim [ inl b ↦ above v t d y b | inr n ↦ (let r = reflexive x in cc) ];
      first = λ t d. elim [ inl b ↦ absurd (apart v t d b) | inr n ↦ rw n.0 (rw n.1 (inr (refl, omega arith))) ];
    })
      where
        over : Won k B cell → k.at_most cell.cost x ≡ false
        over w = elim (and_cases _ _ e) [ inl f ↦ absurd (both_ways _ f w.held) | inr f ↦ f ]

        above : Survives k B cell → (t d : ℕ) (y : C) → B t d y → AtMost k x y
        above (inl (f, none)) t d y b = absurd (none t d y b)
        above (inr w) t d y b = law.transitive _ _ _ (law.total _ _ (over w)) (w.least t d y b)

        apart : Survives k B cell → (t d : ℕ) → B t d x → ⊥
        apart (inl (f, none)) t d b = none t d x b
        apart (inr w) t d b = both_ways _ (over w) (w.least t d x b)

    one_more : (bid : Option C) → Survives k B cell → Survives k (More B s c bid) (tried k s c bid cell)
    one_more None v = survives_as B _ cell (λ t d x b. inl b) (λ t d x. elim [ inl b ↦ b | inr n ↦ (absurd (true≢false (cc))) ]) v
    one_more (Some x) v =
        cond_both (cell.reached && k.at_most cell.cost x) cell (record { reached = true; cost = x; prev = s; code = c })
        (Survives k (More B s c (Some x))) (λ e. keeps x e v) (λ e. takes x e v)

  -- the bids of B, and those of state s by its codes below n
  codes_survive : (bid : ℕ → Option C) (s n : ℕ) (B : ℕ → ℕ → C → Type 0) (cell : Cell C) → ((t d : ℕ) (x : C) → B t d x → t < s) → Survives k B cell → Survives k (λ t d x. B t d x ⊎ ((t ≡ s) × (d < n) × (bid d ≡ Some x))) (tried_codes k s bid n cell)
  codes_survive bid s zero B cell before v = survives_as B _ cell (λ t d x b. inl b) (λ t d x. elim [ inl b ↦ b | inr m ↦ absurd (omega arith) ]) v
  codes_survive bid s (suc n) B cell before v =
      let D : ℕ → ℕ → C → Type 0 = λ t d x. B t d x ⊎ ((t ≡ s) × (d < n) × (bid d ≡ Some x)) in
      survives_as (More D s n (bid n)) _ _
      (λ t d x. elim [ inl (inl b) ↦ inl b | inl (inr m) ↦ inr (m.0, omega arith, m.2) | inr m ↦ inr (m.0, omega arith, rw m.1 m.2) ])
      (λ t d x. elim [ inl b ↦ inl (inl b) | inr m ↦ ⊎_elim (λ e. inr (m.0, e, rw e at m.2)) (λ e. inl (inr (m.0, omega arith, m.2))) (cases_eq d n) ])
      (one_more D s n (λ t d x. elim [ inl b ↦ inl (before t d x b) | inr m ↦ inr (m.0, omega arith) ]) _ (bid n) (codes_survive bid s n B cell before v))

  -- the survivor of the states below n keeps the first of the cheapest of their bids
  pub survivor_survives : (K : ℕ) (bid : ℕ → ℕ → Option C) (n : ℕ) → Survives k (λ s c x. (s < n) × (c < K) × (bid s c ≡ Some x)) (survivor k K bid n)
  survivor_survives K bid zero = inl (refl, λ s c x b. absurd (omega arith))
  survivor_survives K bid (suc n) =
      survives_as (λ s c x. ((s < n) × (c < K) × (bid s c ≡ Some x)) ⊎ ((s ≡ n) × (c < K) × (bid n c ≡ Some x))) _ _
      (λ s c x. elim [ inl b ↦ (omega arith, b.1, b.2) | inr m ↦ (omega arith, m.1, rw m.0 m.2) ])
      (λ s c x b. ⊎_elim (λ e. inr (e, b.1, rw e at b.2)) (λ e. inl (omega arith, b.1, b.2)) (cases_eq s n))
      (codes_survive (bid n) n K _ _ (λ s c x b. b.0) (survivor_survives K bid n))

  -- there is one such cell
  pub one_survivor : (B : ℕ → ℕ → C → Type 0) (x y : Cell C) → Survives k B x → Survives k B y → x ≡ y
  one_survivor B x y (inl (e, none)) (inl (f, _)) = e ∙ sym f
  one_survivor B x y (inl (e, none)) (inr w) = absurd (none _ _ _ w.bids)
  one_survivor B x y (inr w) (inl (e, none)) = absurd (none _ _ _ w.bids)
  one_survivor B x y (inr v) (inr w) =
      let e : x.cost ≡ y.cost = law.antisymmetric _ _ (v.least _ _ _ w.bids) (w.least _ _ _ v.bids) in
      let a : NoLater x.prev x.code y.prev y.code = v.first _ _ (rw e w.bids) in
      let b : NoLater y.prev y.code x.prev x.code = w.first _ _ (rw e at v.bids) in
      let p : x.prev ≡ y.prev = omega arith in
      let d : x.code ≡ y.code = omega arith in
      λ i. record { reached = (v.held ∙ sym w.held) i; cost = e i; prev = p i; code = d i }
