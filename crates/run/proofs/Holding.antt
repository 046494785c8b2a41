-- The cells hold the columns of a line, and the way back through them is the way back through the columns.
use Rattle.std.proofs.Common.{◌≡◌, ℕ, suc, ◌+◌, ◌*◌, ◌<◌, ◌≤◌, true, List, [], ◌∷◌, map, reverse, length, take, drop, Some, None, Option, sym, refl, ap, ◌∙◌, suc-mul, zero-mul, arith}
use mathlib.Core.List.{reverse-cons}
use Rattle.std.specs.List.{AllByRecursion}
use Rattle.std.proofs.lemmas.List.{length-append, length-take, length-take-le, length-drop, take-append-le, take-take, take_at, drop_at, drop-take}
use Rattle.std.proofs.lemmas.Bool.{and_from, eq-eqb, cond_both}
use Rattle.cost.specs.Kind.{Kind, Lawful}
use Rattle.display.specs.Machine.{Meaning}
use Rattle.display.specs.declared.colour.Levels.{Levels}
use Rattle.trellis.specs.Stages.{permits, stage}
use Rattle.trellis.specs.Cells.{column_at, written, begun, extended, can_extend, cell_at, sound_back, codes_back, colours_back}
use Rattle.viterbi.specs.declared.Cell.{Cell}
use Rattle.viterbi.specs.Ways.{Stage, Way, begin}
use Rattle.viterbi.specs.Columns.{at, first_column, passable, next_column, last_column, traced_codes, traced_states}
use Rattle.viterbi.proofs.Lines.{first_long, next_long, held_at, way_back}
use Rattle.run.specs.Agreement.{Holds}

-- a write leaves the length and what lies before it, and what is written can be read
module _ {X : Type 0} (a : ℕ) (ys xs : List X) where
  length-written : a + length ys ≤ length xs → length (written a ys xs) ≡ length xs
  length-written h = simp (length-append, length-take, length-drop) (omega arith)

  before_written : (p s : ℕ) → p + s ≤ a → a ≤ length xs → take s (drop p (written a ys xs)) ≡ take s (drop p xs)
  before_written p s h l =
      sym (drop-take p s (written a ys xs))
      ∙ ap (drop p) (take-append-le (p + s) (take a xs) _ (rw (length-take-le a xs l) h) ∙ take-take (p + s) a xs h)
      ∙ drop-take p s xs

  at_written : (p s : ℕ) → p ≡ a → length ys ≡ s → a ≤ length xs → take s (drop p (written a ys xs)) ≡ ys
  at_written p s e n l = ap (take s) (drop_at (take a xs) _ p (length-take-le a xs l ∙ sym e)) ∙ take_at ys _ s n

-- a way of no steps ends at the start
unmoved : {C : Type 0} {K start t : ℕ} → Way {C = C} K start [] t → t ≡ start
unmoved begin = refl

module _ {C : Type 0} (m : Meaning) (k : Kind C) where
  -- a stage makes only steps that the machine makes
  abbrev pub Follows : Stage C → Type 0
  Follows q = (s c t : ℕ) → q.next s c ≡ Some t → m.step s c ≡ Some t

  pub stage_follows : (wanted : Levels) (pin : Option ℕ) → Follows (stage m k wanted pin)
  stage_follows wanted pin s c t =
      cond_both (permits pin c) (m.step s c) None (λ o. o ≡ Some t → m.step s c ≡ Some t) (λ b e. e) (λ b e. cc)

  -- the cells stay as many as they are
  pub length-begun : (cells : List (Cell C)) → m.states ≤ length cells → length (begun m k cells) ≡ length cells
  length-begun cells h = length-written 0 (first_column k m.states m.start) cells (rw (first_long k m.states m.codes m.start) (omega arith))

  pub length-extended : (wanted : Levels) (pin : Option ℕ) (n : ℕ) (cells : List (Cell C)) → n * m.states + 2 * m.states ≤ length cells →
      length (extended m k wanted pin n cells) ≡ length cells
  length-extended wanted pin n cells h =
      length-written (n * m.states + m.states) _ cells
      (rw (next_long k m.states m.codes (column_at m.states n cells) (stage m k wanted pin)) (omega arith))

  -- column 0 begins a line, and each next column adds a stage to it
  pub holds_begun : (cells : List (Cell C)) → m.states ≤ length cells → Holds m k (begun m k cells) []
  holds_begun cells h =
      at_written 0 _ cells (0 * m.states) m.states (zero-mul m.states) (first_long k m.states m.codes m.start) (omega arith)

  holds_written : (a : ℕ) (ys cells : List (Cell C)) (qs : List (Stage C)) → length qs * m.states + m.states ≤ a → a ≤ length cells →
      Holds m k cells qs → Holds m k (written a ys cells) qs
  holds_written a ys cells [] h l held = before_written a ys cells (0 * m.states) m.states h l ∙ held
  holds_written a ys cells (q ∷ qs) h l held = (
    before_written a ys cells (suc (length qs) * m.states) m.states h l ∙ held.0,
    holds_written a ys cells qs (omega (arith, suc-mul (length qs) m.states)) l held.1,
  )

  pub holds_last : (cells : List (Cell C)) (qs : List (Stage C)) → Holds m k cells qs →
      column_at m.states (length qs) cells ≡ last_column k m.states m.codes m.start qs
  holds_last cells [] held = held
  holds_last cells (q ∷ qs) held = held.0

  pub holds_extended : (wanted : Levels) (pin : Option ℕ) (qs : List (Stage C)) (cells : List (Cell C)) →
      length qs * m.states + 2 * m.states ≤ length cells → Holds m k cells qs →
      Holds m k (extended m k wanted pin (length qs) cells) (stage m k wanted pin ∷ qs)
  holds_extended wanted pin qs cells h held =
      let q = stage m k wanted pin in
      let long = next_long k m.states m.codes (column_at m.states (length qs) cells) q in
      let fits : length qs * m.states + m.states ≤ length cells = omega arith in (
        at_written _ _ cells (suc (length qs) * m.states) m.states (suc-mul (length qs) m.states) long fits
            ∙ ap (λ column. next_column k m.states m.codes column q) (holds_last cells qs held),
        holds_written _ _ cells qs (omega arith) fits held,
      )

  module _ (cells : List (Cell C)) where
    -- a further stage and a state are read off the cells as off the last column
    pub can_extend_is : (qs : List (Stage C)) → Holds m k cells qs → (wanted : Levels) (pin : Option ℕ) →
        can_extend m k pin wanted (length qs) cells ≡ passable k m.states m.codes (last_column k m.states m.codes m.start qs) (stage m k wanted pin)
    can_extend_is qs held wanted pin = ap (λ column. passable k m.states m.codes column (stage m k wanted pin)) (holds_last cells qs held)

    pub holds_cost : (qs : List (Stage C)) → Holds m k cells qs → (t : ℕ) →
        cell_at m k (length qs) t cells ≡ at k (last_column k m.states m.codes m.start qs) t
    holds_cost qs held t = ap (λ column. at k column t) (holds_last cells qs held)

    -- the way back from a reached state is sound, and each way back has the codes and the colours of the way traced
    pub back_sound : (qs : List (Stage C)) → Lawful k → m.start < m.states → Holds m k cells qs → AllByRecursion Follows qs → (t : ℕ) →
        (at k (last_column k m.states m.codes m.start qs) t).reached ≡ true → sound_back m k cells (length qs) t ≡ true
    back_sound [] law here held follows t r =
        rw held (and_from _ _ r (eq-eqb t m.start (unmoved (way_back k law m.states m.codes m.start here [] t r).way)))
    back_sound (q ∷ qs) law here held follows t r =
        let b = (held_at k law m.states m.codes (last_column k m.states m.codes m.start qs) q t r).bids in
        let e = follows.0 _ _ t b.goes in
        rw held.0 (and_from _ _ (and_from _ _ r (rw e (eq-eqb t t refl))) (back_sound qs law here held.1 follows.1 _ b.from))

    pub back_codes : (qs : List (Stage C)) → Holds m k cells qs → (t : ℕ) →
        codes_back m k cells (length qs) t ≡ reverse (traced_codes k m.states m.codes m.start qs t)
    back_codes [] held t = refl
    back_codes (q ∷ qs) held t = rw (held.0, reverse-cons, back_codes qs held.1)

    pub back_colours : (qs : List (Stage C)) → Holds m k cells qs → (t : ℕ) →
        colours_back m k cells (length qs) t ≡ reverse (map m.shown (traced_states k m.states m.codes m.start qs t))
    back_colours [] held t = refl
    back_colours (q ∷ qs) held t = rw (held.0, reverse-cons, back_colours qs held.1)
