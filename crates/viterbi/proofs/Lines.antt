-- The columns hold the cheapest ways.
use Rattle.std.proofs.Common.{◌≡◌, ℕ, ◌<◌, Bool, true, false, cond, ◌↔◌, List, [], ◌∷◌, length, get_or, replicate, is_some, Some, None, Decides, Option, sym, refl, ap, ◌∙◌, subst, inl, inr, ⊎_elim, arith, length-set, get_or-set_other, get_or-set_same}
use mathlib.Core.Bool.{or_comm}
use lib.ListN.{length-replicate, get_or-replicate}
use Rattle.std.specs.List.{AllByRecursion}
use Rattle.std.proofs.lemmas.List.FromFn.{get_or-map-range_with_len, length-map-range_with_len}
use Rattle.std.proofs.lemmas.List.{get_or_past}
use Rattle.std.proofs.lemmas.Bool.{true≢false, both_ways, cases_eq, cases_lt, and_parts, eqb-true, eq-eqb}
use Rattle.std.proofs.lemmas.Bool.Decides.{Decides-below_or, Decides-and}
use Rattle.cost.specs.Kind.{Kind, Lawful, AtMost}
use Rattle.viterbi.specs.declared.Cell.{Cell}
use Rattle.viterbi.specs.Ways.{Stage, Way, begin, on, way_cost}
use Rattle.viterbi.specs.Columns.{leads, any_below, blank, origin, at, survivor, Won, Survives, bid, pick, first_column, Candidate, passable, next_column, last_column}
use Rattle.viterbi.specs.Totals.{total, EachAtMost}
use Rattle.viterbi.specs.Theorems.{Within, Traces, Best}
use Rattle.viterbi.proofs.Survivor.{reflexive, survives_as, survivor_survives}
use Rattle.viterbi.proofs.Picking.{pick_picked, pick_none}

-- what a bid, a step, and a test of the numbers below n say
some_says : {A : Type 0} (b : Bool) (x y : A) → cond b (Some y) None ≡ Some x → (b ≡ true) × (x ≡ y)
some_says true x y e = (refl, cc)
some_says false x y e = (cc, cc)

leads_says : (o : Option ℕ) (t : ℕ) → leads o t ≡ true → o ≡ Some t
leads_says None t e = cc
leads_says (Some u) t e = ap Some (eqb-true u t e)

decides_some : (o : Option ℕ) → Decides (is_some o) ((t : ℕ) × (o ≡ Some t))
decides_some None = (λ e. absurd (true≢false (sym e)), λ m. cc)
decides_some (Some t) = (λ e. (t, refl), λ m. refl)

pub decides_any_below : (f : ℕ → Bool) (P : ℕ → Type 0) → ((i : ℕ) → Decides (f i) (P i)) → (n : ℕ) → Decides (any_below n f) ((i : ℕ) × (i < n) × P i)
decides_any_below f P each = Decides-below_or f P (λ n. any_below n f) each refl (λ n. or_comm (any_below n f) (f n))

module _ {C : Type 0} (k : Kind C) (S K : ℕ) where
  -- columns are S cells long
  pub first_long : (start : ℕ) → length (first_column k S start) ≡ S
  first_long start = length-set (replicate S (blank k)) start (origin k) ∙ length-replicate S (blank k)

  pub next_long : (column : List (Cell C)) (p : Stage C) → length (next_column k S K column p) ≡ S
  next_long column p = length-map-range_with_len (λ t. survivor k K (bid k column p t) S) 0 S

  pub last_long : (start : ℕ) (ps : List (Stage C)) → length (last_column k S K start ps) ≡ S
  last_long start [] = first_long start
  last_long start (p ∷ ps) = next_long (last_column k S K start ps) p

  -- a stage can be passed exactly where a code leads on from a reached state
  pub decides_passable : (column : List (Cell C)) (p : Stage C) →
      Decides (passable k S K column p) ((s : ℕ) × (s < S) × (((at k column s).reached ≡ true) × ((c : ℕ) × (c < K) × ((t : ℕ) × (p.next s c ≡ Some t)))))
  decides_passable column p =
      decides_any_below _ _ (λ s. Decides-and _ _ (λ e. e, λ e. e) (decides_any_below _ _ (λ c. decides_some (p.next s c)) K)) S

module _ {C : Type 0} (k : Kind C) (law : Lawful k) (S K : ℕ) where
  module _ (column : List (Cell C)) (p : Stage C) where
    -- each cell of the next column keeps the first of the cheapest candidates
    pub survives_at : (t : ℕ) → t < S → Survives k (Candidate k S K column p t) (at k (next_column k S K column p) t)
    survives_at t h =
        subst (Survives k (Candidate k S K column p t)) (sym (get_or-map-range_with_len (λ u. survivor k K (bid k column p u) S) 0 S t t (blank k) h (omega arith)))
        (survives_as k law (λ s c x. (s < S) × (c < K) × (bid k column p t s c ≡ Some x)) (Candidate k S K column p t) _
        (λ s c x b.
        let m = some_says _ _ _ b.2 in
        let n = and_parts _ _ m.0 in
        record { state = b.0; below = b.1; from = n.0; goes = leads_says _ t n.1; costs = m.1 })
        (λ s c x b. let f = b.from in let g = b.goes in let e = b.costs in (b.state, b.below, cc (eq-eqb t t refl)))
        (survivor_survives k law K (bid k column p t) S))

    -- what a reached cell holds, and what a candidate comes to
    pub held_at : (t : ℕ) → (at k (next_column k S K column p) t).reached ≡ true → Won k (Candidate k S K column p t) (at k (next_column k S K column p) t)
    held_at t r =
        ⊎_elim (λ h. elim (survives_at t h) [ inl b ↦ absurd (true≢false (cc)) | inr w ↦ w ])
        (λ h. absurd (true≢false (cc (get_or_past (next_column k S K column p) t (blank k) (rw (next_long k S K column p) h))))) (cases_lt t S)

    pub offered_at : (t s c : ℕ) (x : C) → t < S → Candidate k S K column p t s c x → ((at k (next_column k S K column p) t).reached ≡ true) × AtMost k (at k (next_column k S K column p) t).cost x
    offered_at t s c x h b = elim (survives_at t h) [ inl n ↦ absurd (n.1 s c x b) | inr w ↦ (w.held, w.least s c x b) ]

  module _ (start : ℕ) (here : start < S) where
    -- in the first column the start is reached, and no other state
    first_start : at k (first_column k S start) start ≡ origin k
    first_start = get_or-set_same (replicate S (blank k)) start (origin k) (blank k) (rw length-replicate here)

    first_only : (t : ℕ) → (at k (first_column k S start) t).reached ≡ true → start ≡ t
    first_only t r =
        let empty : get_or (replicate S (blank k)) t (blank k) ≡ blank k = ⊎_elim (get_or-replicate S t (blank k) (blank k)) (λ h. get_or_past _ t _ (rw length-replicate h)) (cases_lt t S) in
        ⊎_elim (λ e. sym e) (λ ne. absurd (true≢false (cc (get_or-set_other (replicate S (blank k)) start t (origin k) (blank k) ne)))) (cases_eq t start)

    -- the way back from a reached state costs just what its cell says
    pub way_back : (ps : List (Stage C)) (t : ℕ) → (at k (last_column k S K start ps) t).reached ≡ true → Traces k S K start ps t (at k (last_column k S K start ps) t).cost
    way_back [] t r =
        subst (λ u. Traces k S K start [] u (at k (first_column k S start) u).cost) (first_only t r)
        (record { way = begin; by_codes = refl; by_states = refl; costs = ap (λ (c : Cell C). c.cost) (sym first_start) })
    way_back (p ∷ ps) t r =
        let cell = at k (last_column k S K start (p ∷ ps)) t in
        let b = (held_at (last_column k S K start ps) p t r).bids in
        let w = way_back ps cell.prev b.from in
        record {
          way = on w.way cell.code b.below b.goes;
          by_codes = ap (λ cs. cell.code ∷ cs) w.by_codes;
          by_states = ap (λ ss. t ∷ ss) w.by_states;
          costs = ap (λ x. k.join x (p.price cell.code t)) w.costs ∙ sym b.costs;
        }

    -- a way leads to a reached state, whose cost is at most its own
    pub way_there : {ps : List (Stage C)} {t : ℕ} (w : Way K start ps t) → AllByRecursion (Within S K) ps → (t < S) × ((at k (last_column k S K start ps) t).reached ≡ true) × AtMost k (at k (last_column k S K start ps) t).cost (way_cost k w)
    way_there begin ok =
        subst (λ (c : Cell C). (start < S) × (c.reached ≡ true) × AtMost k c.cost k.zero) (sym first_start) (here, refl, reflexive k law k.zero)
    way_there (on {p = p} {ps = ps} {s = s} {t = t} w c below goes) ok =
        let b = way_there w ok.1 in
        let h = ok.0 s c t b.0 below goes in
        let o = offered_at (last_column k S K start ps) p t s c _ h (record { state = b.0; below = below; from = b.1; goes = goes; costs = refl }) in
        (h, o.0, law.transitive _ _ _ o.1 (law.grows_left _ _ _ b.2))

    module _ (ps : List (Stage C)) (ok : AllByRecursion (Within S K) ps) where
      -- where a way leads, the best is picked, and one more stage is passed exactly where a way leads along it too
      pub best_picked : (t : ℕ) → Way K start ps t → (b : ℕ) × (pick k (last_column k S K start ps) S ≡ Some b) × Best k S K start ps b
      best_picked t w = go (pick k (last_column k S K start ps) S) refl
        where
          go : (o : Option ℕ) → pick k (last_column k S K start ps) S ≡ o → (b : ℕ) × (pick k (last_column k S K start ps) S ≡ Some b) × Best k S K start ps b
          go None e = let v = way_there w ok in absurd (both_ways _ (pick_none k law _ S e t v.0) v.1)
          go (Some b) e =
              let q = pick_picked k law _ S b e in (
                b,
                e,
                record {
                  inside = q.state;
                  reached = q.stands;
                  traces = way_back ps b q.stands;
                  least = λ u v. let m = way_there v ok in law.transitive _ _ _ (q.least u m.0 m.1) m.2;
                },
              )

      pub passable_way : (p : Stage C) → (passable k S K (last_column k S K start ps) p ≡ true) ↔ ((t : ℕ) × Way K start (p ∷ ps) t)
      passable_way p = (
        λ e. let (s, h, m) = (decides_passable k S K (last_column k S K start ps) p).0 e in (m.1.2.0, on (way_back ps s m.0).way m.1.0 m.1.1 m.1.2.1),
        λ v. from v.0 v.1,
      )
        where
          from : (t : ℕ) → Way K start (p ∷ ps) t → passable k S K (last_column k S K start ps) p ≡ true
          from t (on {s = s} w c below goes) = let m = way_there w ok in (decides_passable k S K (last_column k S K start ps) p).1 (s, m.0, (m.1, (c, below, (t, goes))))

-- totals grow with the costs in them
pub totals_grow : {C : Type 0} (k : Kind C) → Lawful k → (xs ys : List C) → EachAtMost k xs ys → AtMost k (total k xs) (total k ys)
totals_grow k law [] [] each = reflexive k law k.zero
totals_grow k law [] (y ∷ ys) each = absurd each
totals_grow k law (x ∷ xs) [] each = absurd each
totals_grow k law (x ∷ xs) (y ∷ ys) each =
    law.transitive _ _ _ (law.grows_left _ _ _ (totals_grow k law xs ys each.1)) (law.grows_right _ _ _ each.0)
