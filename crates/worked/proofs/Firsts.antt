-- The line that close gives, by a test of every way along its pixels.
use Rattle.std.proofs.Common.{◌≡◌, ℕ, ◌<◌, Bool, true, cond, ◌&&◌, ◌||◌, eqb, ltb, leb, List, [], ◌∷◌, reverse, Some, unwrap_or, sym, refl, ap, ◌∙◌, subst, ap₂, ⊎_elim, arith}
use Rattle.std.specs.Option.{option_map}
use Rattle.std.specs.List.{AllByRecursion}
use Rattle.std.proofs.lemmas.Bool.{and_parts, both_ways, cases_eq, eq-eqb, leb-true}
use Rattle.std.proofs.lemmas.Bool.Decides.{nat_tests}
use Rattle.cost.specs.Kind.{Kind, Lawful}
use Rattle.display.specs.Machine.{Meaning, Lawful as Sound}
use Rattle.lines.specs.Lines.{preview_of}
use Rattle.viterbi.specs.declared.Cell.{Cell}
use Rattle.viterbi.specs.Ways.{Stage, Way, begin, on, codes, way_cost}
use Rattle.viterbi.specs.Columns.{NoLater, Candidate, at, pick, last_column, traced_codes}
use Rattle.viterbi.specs.Theorems.{Within}
use Rattle.viterbi.proofs.Lines.{held_at, way_back, way_there}
use Rattle.viterbi.proofs.Picking.{pick_picked}
use Rattle.run.specs.Account.{Wanted}
use Rattle.run.specs.Agreement.{stages_of}
use Rattle.run.specs.Rivals.{Best}
use Rattle.run.proofs.Bridge.{Along, within, closes_best}
use Rattle.worked.proofs.Every.{every, every_below}

-- (s, c) is no later than (r, d)
abbrev no_later : ℕ → ℕ → ℕ → ℕ → Bool
no_later s c r d = ltb s r || (eqb s r && leb c d)

same_step : (s c r d : ℕ) → no_later s c r d ≡ true → NoLater r d s c → (r ≡ s) × (d ≡ c)
same_step s c r d e f = (grind (arith, nat_tests), grind (arith, nat_tests))

module _ {C : Type 0} (k : Kind C) where
  -- what ends at u and costs y is dearer than x, or costs the same and ends no lower than t
  abbrev no_lower : ℕ → C → ℕ → C → Bool
  no_lower t x u y = cond (k.at_most y x) (k.at_most x y && leb t u) true

  -- what comes by (r, d) to u and costs y ends elsewhere than at t, or is dearer than x, or costs the same and comes no earlier than by (s, c)
  abbrev no_earlier : ℕ → ℕ → ℕ → C → ℕ → ℕ → ℕ → C → Bool
  no_earlier s c t x r d u y = cond (eqb u t && k.at_most y x) (k.at_most x y && no_later s c r d) true

  module _ (K start : ℕ) where
    -- a test of each step from a state s, where a way costs x: of s, the code, the state that it leads to, and the cost there
    abbrev every_step : Stage C → (ℕ → ℕ → ℕ → C → Bool) → ℕ → C → Bool
    every_step p test s x = every (λ c. unwrap_or (option_map (λ t. test s c t (k.join x (p.price c t))) (p.next s c)) true) K

    step_passes : (p : Stage C) (test : ℕ → ℕ → ℕ → C → Bool) (s : ℕ) (x : C) → every_step p test s x ≡ true →
        (c t : ℕ) → c < K → p.next s c ≡ Some t → test s c t (k.join x (p.price c t)) ≡ true
    step_passes p test s x e c t below goes = rw goes at (every_below _ K c e below)

    -- a test of every way along the stages: of its end and its cost
    abbrev every_way : List (Stage C) → (ℕ → C → Bool) → Bool
    every_way [] test = test start k.zero
    every_way (p ∷ ps) test = every_way ps (every_step p (λ s c t x. test t x))

    way_passes : (ps : List (Stage C)) (test : ℕ → C → Bool) → every_way ps test ≡ true → {t : ℕ} (w : Way K start ps t) → test t (way_cost k w) ≡ true
    way_passes [] test e begin = e
    way_passes (p ∷ ps) test e (on {s = s} {t = t} w c below goes) =
        step_passes p (λ _ _ u x. test u x) s (way_cost k w) (way_passes ps _ e w) c t below goes

    -- of each beginning of the way: none to the same end is cheaper, or as cheap and earlier by its last step
    abbrev leads_back : {ps : List (Stage C)} {t : ℕ} → Way K start ps t → Bool
    leads_back begin = true
    leads_back (on {p = p} {ps = ps} {s = s} {t = t} w c below goes) =
        every_way ps (every_step p (no_earlier s c t (k.join (way_cost k w) (p.price c t)))) && leads_back w

    -- and none along all the stages is cheaper, or as cheap and ends lower
    abbrev pub is_first : (ps : List (Stage C)) {t : ℕ} → Way K start ps t → Bool
    is_first ps {t} w = every_way ps (no_lower t (way_cost k w)) && leads_back w

    module _ (law : Lawful k) (S : ℕ) (here : start < S) where
      abbrev column : List (Stage C) → List (Cell C)
      column ps = last_column k S K start ps

      -- then the cells lead back by that way,
      by_cells : {ps : List (Stage C)} {t : ℕ} (w : Way K start ps t) → AllByRecursion (Within S K) ps → leads_back w ≡ true → traced_codes k S K start ps t ≡ codes w
      by_cells begin ok first = refl
      by_cells (on {p = p} {ps = ps} {s = s} {t = t} w c below goes) ok first =
          let none = no_earlier s c t (k.join (way_cost k w) (p.price c t)) in
          let (tests, before) = and_parts (every_way ps (every_step p none)) (leads_back w) first in
          let (inside, reached, cheap) = way_there k law S K start here w ok.1 in
          let (_, held, least) = way_there k law S K start here (on w c below goes) ok in
          let cell = at k (column (p ∷ ps)) t in
          let won = held_at k law S K (column ps) p t held in
          let bids = won.bids in
          let back = way_back k law S K start here ps cell.prev bids.from in
          let cost = ap (λ x. k.join x (p.price cell.code t)) back.costs ∙ sym bids.costs in
          let test = step_passes p none _ _ (way_passes ps (every_step p none) tests back.way) cell.code t bids.below bids.goes in
          let (same, no_later) = and_parts _ _ (rw (cost, eq-eqb t t refl, least) at test) in
          let offer : (x : C) → x ≡ k.join (at k (column ps) s).cost (p.price c t) → Candidate k S K (column ps) p t s c x = λ x e. record { state = inside; below = below; from = reached; goes = goes; costs = e } in
          let tie = law.antisymmetric _ _ (won.least s c _ (offer _ refl)) (law.transitive _ _ _ (law.grows_left _ _ _ cheap) same) in
          let (from, by) = same_step s c cell.prev cell.code no_later (won.first s c (offer _ tie)) in
          ap₂ ◌∷◌ by (ap (traced_codes k S K start ps) from ∙ by_cells w ok.1 before)

      -- its end is picked, and it costs what the end's cell says
      is_closed : {ps : List (Stage C)} {t : ℕ} (w : Way K start ps t) → AllByRecursion (Within S K) ps → is_first ps w ≡ true → (b : ℕ) → pick k (column ps) S ≡ Some b →
          (traced_codes k S K start ps b ≡ codes w) × ((at k (column ps) b).cost ≡ way_cost k w)
      is_closed {ps} {t} w ok first b picks =
          let (tests, before) = and_parts (every_way ps (no_lower t (way_cost k w))) (leads_back w) first in
          let (inside, reached, cheap) = way_there k law S K start here w ok in
          let q = pick_picked k law (column ps) S b picks in
          let back = way_back k law S K start here ps b q.stands in
          let least = law.transitive _ _ _ (q.least t inside reached) cheap in
          let test = way_passes ps (no_lower t (way_cost k w)) tests back.way in
          let (same, lower) = and_parts _ _ (rw (back.costs, least) at test) in
          let end : b ≡ t = ⊎_elim (λ e. e) (λ ne. absurd (both_ways _ (q.lowest t (omega (arith, leb-true _ _ lower)) reached) (law.transitive _ _ _ cheap same))) (cases_eq b t) in
          (ap (traced_codes k S K start ps) end ∙ by_cells w ok before, law.antisymmetric _ _ least same)

-- so close gives its codes, what they show, and its cost. The pixels stand with the last first
pub closes_with : {C : Type 0} (m : Meaning) (k : Kind C) → Sound m → Lawful k → (ps : List Wanted) {t : ℕ} (w : Along m k ps t) →
    is_first k m.codes m.start (stages_of m k ps) w ≡ true → {x : C} → way_cost k w ≡ x →
    Best m k (record { pixels = reverse ps; codes = reverse (codes w); preview = preview_of m (reverse (codes w)); cost = x })
closes_with m k sound law ps {t} w first cost =
    let (b, picks, _, best) = closes_best m k sound law ps t w in
    let (back, same) = is_closed k m.codes m.start law m.states sound.start_below w (within m k sound ps) first b picks in
    let line = ap reverse back in
    subst (Best m k) (λ i. record { pixels = reverse ps; codes = line i; preview = (best.shows ∙ ap (preview_of m) line) i; cost = (same ∙ cost) i }) best
