-- Ways along the stages of a line's pixels are its rivals: so the line that close picks is the best of them.
use Rattle.std.proofs.Common.{◌≡◌, ℕ, ◌<◌, true, eqb, ◌↔◌, List, [], ◌∷◌, map, reverse, is_some, Some, None, Option, sym, refl, ap, ◌∙◌, ap₂, ⊎_elim, arith}
use mathlib.Core.List.{reverse-cons, reverse-reverse}
use lib.ListN.{length-reverse, length-map}
use Rattle.std.specs.List.{AllByRecursion}
use Rattle.std.proofs.lemmas.List.{map_push}
use Rattle.std.proofs.lemmas.Bool.{true≢false, eqb-true, eq-eqb, cond_both, cases_lt}
use Rattle.cost.specs.Kind.{Kind, AtMost, Lawful}
use Rattle.display.specs.Colours.{levels_of}
use Rattle.display.specs.Machine.{Meaning, Lawful as LawfulMachine}
use Rattle.display.specs.declared.colour.Target.{Target}
use Rattle.lines.specs.Lines.{after_code, preview_of, price_at, cost_of}
use Rattle.trellis.specs.Stages.{permitted, stage}
use Rattle.viterbi.specs.declared.Cell.{Cell}
use Rattle.viterbi.specs.Ways.{Way, begin, on, codes, states, way_cost}
use Rattle.viterbi.specs.Columns.{at, pick, passable, last_column, traced_codes, traced_states}
use Rattle.viterbi.specs.Totals.{total, EachAtMost}
use Rattle.viterbi.specs.Theorems.{Within}
use Rattle.viterbi.proofs.Lines.{best_picked, passable_way, totals_grow}
use Rattle.run.specs.Account.{Wanted, ClosedLine}
use Rattle.run.specs.Rivals.{KeepsPin, Rival, targets, stages, Best, total_of, Choice, choice_costs}
use Rattle.run.specs.Agreement.{stages_of}
use Rattle.run.proofs.Pushes.{end_from, end_push, preview_push, cost_push, rival_push}

-- a permitted step is a step by a code that keeps the pin, and leads to the state after that code
pub permitted_keeps : (m : Meaning) (pin : Option ℕ) (s c t : ℕ) → (permitted m pin s c ≡ Some t) ↔ ((m.step s c ≡ Some t) × KeepsPin pin c)
permitted_keeps m None s c t = (λ e. (e, tt), λ h. h.0)
permitted_keeps m (Some pin) s c t = (
  cond_both (eqb pin c) (m.step s c) None (λ o. o ≡ Some t → (m.step s c ≡ Some t) × (c ≡ pin)) (λ b e. (e, sym (eqb-true pin c b))) (λ b e. absurd (true≢false (cc))),
  λ h. rw (eq-eqb pin c (sym h.1)) h.0,
)

pub permitted_lands : (m : Meaning) (pin : Option ℕ) (r s c t : ℕ) → r ≡ s → permitted m pin s c ≡ Some t → after_code m r c ≡ t
permitted_lands m pin r s c t e goes = rw e (rw ((permitted_keeps m pin s c t).0 goes).0)

-- a code that has a next state is one of the machine's
pub next_known : (m : Meaning) → LawfulMachine m → (s c : ℕ) → is_some (m.step s c) ≡ true → (c < m.codes) × ((t : ℕ) × (m.step s c ≡ Some t))
next_known m law s c = go (m.step s c) refl
  where
    go : (o : Option ℕ) → m.step s c ≡ o → is_some o ≡ true → (c < m.codes) × ((t : ℕ) × (m.step s c ≡ Some t))
    go None e b = absurd (true≢false (sym b))
    go (Some t) e b = (⊎_elim (λ h. h) (λ h. let n = law.no_such_code s c h in absurd (true≢false (cc))) (cases_lt c m.codes), (t, e))

module _ {C : Type 0} (m : Meaning) (k : Kind C) where
  pub stages-reverse : (ps : List Wanted) → stages m k (reverse ps) ≡ stages_of m k ps
  stages-reverse ps = ap (stages_of m k) (reverse-reverse ps)

  -- a way along them, and their last column
  abbrev pub Along : List Wanted → ℕ → Type 0
  Along ps t = Way m.codes m.start (stages_of m k ps) t

  abbrev pub column_of : List Wanted → List (Cell C)
  column_of ps = last_column k m.states m.codes m.start (stages_of m k ps)

  -- a lawful machine's stages lead to its states
  pub within : LawfulMachine m → (ps : List Wanted) → AllByRecursion (Within m.states m.codes) (stages_of m k ps)
  within law [] = tt
  within law (p ∷ ps) = (λ s c t _ _ e. law.next_below s c t ((permitted_keeps m p.pin s c t).0 e).0, within law ps)

  -- A way's codes, from left to right: they lead to its end,
  pub way_ends : (ps : List Wanted) {t : ℕ} (w : Along ps t) → end_from m m.start (reverse (codes w)) ≡ t
  way_ends [] begin = refl
  way_ends (p ∷ ps) (on w c below goes) =
      rw (reverse-cons c (codes w)) (end_push m m.start (reverse (codes w)) c ∙ permitted_lands m p.pin _ _ c _ (way_ends ps w) goes)

  -- are a rival of the pixels,
  pub way_rival : (ps : List Wanted) {t : ℕ} (w : Along ps t) → Rival m (reverse ps) (reverse (codes w))
  way_rival [] begin = record { legal = tt; long = refl; keeps = tt }
  way_rival (p ∷ ps) (on w c below goes) =
      let h = (permitted_keeps m p.pin _ c _).0 goes in
      rw (reverse-cons p ps) (rw (reverse-cons c (codes w)) ((rival_push m (reverse ps) (reverse (codes w)) p c).1 (way_rival ps w, rw (way_ends ps w) (rw h.0), h.1)))

  -- show the colours of its states,
  pub way_shows : (ps : List Wanted) {t : ℕ} (w : Along ps t) → preview_of m (reverse (codes w)) ≡ reverse (map m.shown (states w))
  way_shows [] begin = refl
  way_shows (p ∷ ps) (on {t = t} w c below goes) =
      let a = reverse-cons c (codes w) in
      let b = preview_push m m.start (reverse (codes w)) c in
      let d = permitted_lands m p.pin _ _ c _ (way_ends ps w) goes in
      let e = way_shows ps w in
      let f = reverse-cons (m.shown t) (map m.shown (states w)) in
      cc

  -- and cost what it costs.
  pub way_prices : (ps : List Wanted) {t : ℕ} (w : Along ps t) → cost_of m k (reverse (codes w)) (targets (reverse ps)) ≡ way_cost k w
  way_prices [] begin = refl
  way_prices (p ∷ ps) (on w c below goes) =
      let f : Wanted → Target = λ q. q.target in
      rw (reverse-cons c (codes w)) (rw (reverse-cons p ps) (rw (map_push f (reverse ps) p)
      (cost_push m k k.zero m.start (reverse (codes w)) (targets (reverse ps)) c p.target ((way_rival ps w).long ∙ sym (length-map (reverse ps) f))
      ∙ ap₂ (λ x t. k.join x (price_at m k (levels_of p.target) c t)) (way_prices ps w) (permitted_lands m p.pin _ _ c _ (way_ends ps w) goes))))

  -- A way goes on by a code that has a next state and keeps the pin; so every rival is a way's codes.
  pub one_on : LawfulMachine m → (p : Wanted) (ps : List Wanted) (c : ℕ) (cs : List ℕ) (s : ℕ) (w : Along ps s) → codes w ≡ cs →
      is_some (m.step (end_from m m.start (reverse cs)) c) ≡ true → KeepsPin p.pin c → (t : ℕ) × (v : Along (p ∷ ps) t) × (codes v ≡ c ∷ cs)
  one_on law p ps c cs s w e next keeps =
      let h : end_from m m.start (reverse cs) ≡ s = rw e at (way_ends ps w) in
      let (below, (t, goes)) = next_known m law s c (rw h at next) in
      (t, on w c below ((permitted_keeps m p.pin s c t).1 (goes, keeps)), ap (λ ds. c ∷ ds) e)

  pub back_way : LawfulMachine m → (ps : List Wanted) (cs : List ℕ) → Rival m (reverse ps) (reverse cs) → (t : ℕ) × (w : Along ps t) × (codes w ≡ cs)
  back_way law [] [] r = (m.start, begin, refl)
  back_way law [] (c ∷ cs) r = absurd (omega (arith, r.long, length-reverse (c ∷ cs)))
  back_way law (p ∷ ps) [] r = absurd (omega (arith, r.long, length-reverse (p ∷ ps)))
  back_way law (p ∷ ps) (c ∷ cs) r =
      let (q, next, keeps) = (rival_push m (reverse ps) (reverse cs) p c).0 (rw (reverse-cons p ps) at (rw (reverse-cons c cs) at r)) in
      let (s, w, e) = back_way law ps cs q in
      one_on law p ps c cs s w e next keeps

  pub rival_way : LawfulMachine m → (ps : List Wanted) (line : List ℕ) → Rival m (reverse ps) line → (t : ℕ) × (w : Along ps t) × (reverse (codes w) ≡ line)
  rival_way law ps line r =
      let (t, w, e) = back_way law ps (reverse line) (rw (reverse-reverse line) r) in
      (t, w, ap reverse e ∙ reverse-reverse line)

  module _ (machine : LawfulMachine m) (law : Lawful k) where
    -- one more pixel is passed exactly where the line with it has a rival
    pub some_rival : (p : Wanted) (ps : List Wanted) →
        (passable k m.states m.codes (column_of ps) (stage m k (levels_of p.target) p.pin) ≡ true)
        ↔ ((line : List ℕ) × Rival m (reverse (p ∷ ps)) line)
    some_rival p ps =
        let b = passable_way k law m.states m.codes m.start machine.start_below (stages_of m k ps) (within machine ps) (stage m k (levels_of p.target) p.pin) in (
          λ e. let (t, w) = b.0 e in (reverse (codes w), way_rival (p ∷ ps) w),
          λ r. let (t, w, e) = rival_way machine (p ∷ ps) r.0 r.1 in b.1 (t, w),
        )

    -- where a way leads along the line, the line that close picks is the best
    pub closes_best : (ps : List Wanted) (t : ℕ) → Along ps t →
        (b : ℕ)
        × (pick k (column_of ps) m.states ≡ Some b)
        × ((at k (column_of ps) b).reached ≡ true)
        × Best m k (record {
          pixels = reverse ps;
          codes = reverse (traced_codes k m.states m.codes m.start (stages_of m k ps) b);
          preview = reverse (map m.shown (traced_states k m.states m.codes m.start (stages_of m k ps) b));
          cost = (at k (column_of ps) b).cost;
        })
    closes_best ps t w =
        let (b, picks, best) = best_picked k law m.states m.codes m.start machine.start_below (stages_of m k ps) (within machine ps) t w in
        let back = best.traces in (
          b,
          picks,
          best.reached,
          record {
            picked = record { state = b; picks = rw (stages-reverse ps) picks; codes = rw (stages-reverse ps); cost = rw (stages-reverse ps) };
            rival = rw back.by_codes at (way_rival ps back.way);
            shows = sym (rw back.by_codes at (rw back.by_states at (way_shows ps back.way)));
            costs = sym back.costs ∙ sym (rw back.by_codes at (way_prices ps back.way));
            least = λ other r.
                let (u, v, e) = rival_way machine ps other r in
                rw e at (rw (← way_prices ps v) at (best.least u v));
          },
        )

  -- no other choice of rivals totals less than the best lines
  pub choice_above : (closed : List (ClosedLine C)) → AllByRecursion (Best m k) closed → (others : List (List ℕ)) → Choice m k closed others → EachAtMost k (map (λ line. line.cost) closed) (choice_costs m k closed others)
  choice_above [] best [] choice = tt
  choice_above [] best (other ∷ others) choice = absurd choice
  choice_above (line ∷ closed) best [] choice = absurd choice
  choice_above (line ∷ closed) best (other ∷ others) choice = (best.0.least other choice.0, choice_above closed best.1 others choice.1)

  pub reports_least : Lawful k → (closed : List (ClosedLine C)) → AllByRecursion (Best m k) closed → (others : List (List ℕ)) → Choice m k closed others →
      AtMost k (total_of m k closed) (total k (choice_costs m k closed others))
  reports_least law closed best others choice = totals_grow k law _ _ (choice_above closed best others choice)
