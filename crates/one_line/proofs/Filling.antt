-- A line's pixels, added one by one.
use Rattle.std.proofs.Common.{◌≡◌, ℕ, ◌+◌, ◌*◌, ◌<◌, ◌≤◌, cond, List, [], ◌∷◌, ◌++◌, reverse, length, take, drop, IsErrAnd, Some, None, Option, Result, sym, refl, ap, ◌∙◌, subst, add-mul, arith}
use Rattle.std.proofs.lemmas.List.{length-drop, length-reverse, length-take, take_all, take_more, drop_all, drop_more}
use Rattle.std.proofs.lemmas.Bool.{true≢false}
use Rattle.std.proofs.lemmas.Bool.Decides.{nat_tests}
use Rattle.cost.specs.Kind.{Kind, Lawful}
use Rattle.display.specs.Colours.{levels_of}
use Rattle.display.specs.Machine.{Meaning, Lawful as Sound}
use Rattle.lines.specs.Checks.{and_then, answer}
use Rattle.lines.specs.declared.fault.Fault.{Fault}
use Rattle.lines.specs.declared.fault.Fault.TheVariants.{NoWay}
use Rattle.trellis.specs.Calls.{too_few_cells, line_full, line_empty, short_buffers, unknown_pin, early_check, ready_check, add_check, added, added_cells}
use Rattle.trellis.specs.Stages.{stage}
use Rattle.trellis.specs.declared.plate.OpenLine.{OpenLine}
use Rattle.trellis.specs.declared.plate.Plate.{Plate}
use Rattle.trellis.proofs.Checking.{Told, told, passed_on}
use Rattle.viterbi.specs.Columns.{last_column, passable}
use Rattle.viterbi.specs.declared.Cell.{Cell}
use Rattle.run.specs.Account.{Wanted}
use Rattle.run.specs.Rivals.{stages}
use Rattle.run.specs.Agreement.{OpenRight}
use Rattle.run.proofs.Opened.{add_check_is, added_plate, add_opens}
use Rattle.one_line.specs.Drawing.{blocked}
use Rattle.one_line.proofs.Passing.{reverse-push}

-- Of a line that was started, a pixel within the width is refused only by its pin's code or for want of a way,
enough : (S cells width pixels : ℕ) → width * S + S ≤ cells → too_few_cells S cells width pixels ≡ None
enough S cells width pixels h =
    let rows : (width + 1) * S ≤ cells = omega (arith, add-mul width 1 S) in
    grind (arith, nat_tests)

room : (width pixels : ℕ) → pixels < width → line_full width pixels ≡ None
room width pixels h = grind (arith, nat_tests)

early_is : (m : Meaning) (cells width : ℕ) (pin : Option ℕ) (pixels : ℕ) → width * m.states + m.states ≤ cells → pixels < width →
    early_check m cells width pin pixels ≡ unknown_pin m.codes pin pixels
early_is m cells width pin pixels fits below =
    ap (λ ch. and_then ch (and_then (line_full width pixels) (unknown_pin m.codes pin pixels))) (enough m.states cells width pixels fits)
    ∙ ap (λ ch. and_then ch (unknown_pin m.codes pin pixels)) (room width pixels below)

-- and its close by short buffers alone.
pub ready_is : (m : Meaning) (cells width codes preview : ℕ) → width * m.states + m.states ≤ cells → 0 < width → ready_check m cells width codes preview width ≡ short_buffers codes preview width
ready_is m cells width codes preview fits some =
    ap (λ ch. and_then ch (and_then (line_empty width) (short_buffers codes preview width))) (enough m.states cells width width fits)
    ∙ ap (λ ch. and_then ch (short_buffers codes preview width)) (not_empty width some)
  where
    not_empty : (n : ℕ) → 0 < n → line_empty n ≡ None
    not_empty n h = grind (arith, nat_tests)

pub not_short : (n : ℕ) → short_buffers n n n ≡ None
not_short n = grind (arith, nat_tests)

-- an element at place i, and how the list goes on
split_more : {X : Type 0} (xs : List X) (i : ℕ) (x : X) (ys : List X) → drop i xs ≡ x ∷ ys → (take (i + 1) xs ≡ take i xs ++ x ∷ []) × (drop (i + 1) xs ≡ ys)
split_more xs i x ys e =
    let h : i < length xs = omega (arith, length-drop i xs, ap length e) in
    let t = take_more xs i x h in
    let d = drop_more xs i x h in
    (cc, cc)

pub and_then_assoc : (a b c : Option Fault) → and_then a (and_then b c) ≡ and_then (and_then a b) c
and_then_assoc None b c = refl
and_then_assoc (Some fault) b c = refl

module _ {C : Type 0} (m : Meaning) (k : Kind C) (width : ℕ) (pixels : List Wanted) where
  -- the line has the first i pixels, and whether a pixel is refused is left to the others
  pub record Filled (plate : Plate C) (i : ℕ) (line : OpenLine C) (cells : List (Cell C)) : Type 0 where
    pub drawn : OpenRight m k width (reverse (take i pixels)) line cells
    pub ahead : blocked m k [] pixels ≡ blocked m k (take i pixels) (drop i pixels)
    pub rests : line.plate ≡ plate

  pub filled_none : (line : OpenLine C) (cells : List (Cell C)) → OpenRight m k width [] line cells → Filled line.plate 0 line cells
  filled_none line cells right = record { drawn = right; ahead = refl; rests = refl }

  pub filled_all : (plate : Plate C) (i : ℕ) (line : OpenLine C) (cells : List (Cell C)) → Filled plate i line cells → length pixels ≤ i →
      (blocked m k [] pixels ≡ None) × OpenRight m k width (reverse pixels) line cells
  filled_all plate i line cells filled h = (
    filled.ahead ∙ ap (blocked m k (take i pixels)) (drop_all i pixels h),
    subst (λ ps. OpenRight m k width (reverse ps) line cells) (take_all i pixels h) filled.drawn,
  )

  module _ (plate : Plate C) (i : ℕ) (line : OpenLine C) (cells : List (Cell C)) (filled : Filled plate i line cells)
      (fits : width * m.states + m.states ≤ length cells) (below : i < width) (p : Wanted) (next : drop i pixels ≡ p ∷ drop (i + 1) pixels) where
    -- the next pixel's check is the first of those ahead
    check_is : blocked m k [] pixels ≡ and_then (add_check m k line cells p.target p.pin) (blocked m k (take (i + 1) pixels) (drop (i + 1) pixels))
    check_is =
        let before = take i pixels in
        let unknown = unknown_pin m.codes p.pin (length before) in
        let passes = passable k m.states m.codes (last_column k m.states m.codes m.start (stages m k before)) (stage m k (levels_of p.target) p.pin) in
        let add_is : add_check m k line cells p.target p.pin ≡ and_then unknown (cond passes None (Some (NoWay (length before)))) =
        add_check_is m k width (reverse before) line cells filled.drawn p
        ∙ ap (λ n. and_then (early_check m (length cells) width p.pin n) (cond passes None (Some (NoWay n)))) (length-reverse before)
        ∙ ap (λ ch. and_then ch (cond passes None (Some (NoWay (length before))))) (early_is m (length cells) width p.pin (length before) fits (omega (arith, length-take i pixels)))
        in
        filled.ahead ∙ ap (blocked m k before) next
        ∙ and_then_assoc unknown (cond passes None (Some (NoWay (length before)))) (blocked m k (before ++ p ∷ []) (drop (i + 1) pixels))
        ∙ ap (λ ch. and_then ch (blocked m k (before ++ p ∷ []) (drop (i + 1) pixels))) (sym add_is)
        ∙ ap (λ ps. and_then (add_check m k line cells p.target p.pin) (blocked m k ps (drop (i + 1) pixels))) (sym (split_more pixels i p (drop (i + 1) pixels) next).0)

    pub filled_stops : (fault : Fault) → add_check m k line cells p.target p.pin ≡ Some fault → blocked m k [] pixels ≡ Some fault
    filled_stops fault check = check_is ∙ ap (λ ch. and_then ch (blocked m k (take (i + 1) pixels) (drop (i + 1) pixels))) check

    pub filled_more : Sound m → Lawful k → add_check m k line cells p.target p.pin ≡ None →
        Filled plate (i + 1) (added m k line cells p.target p.pin) (added_cells m k line cells p.target p.pin)
    filled_more sound law check = record {
      drawn =
          subst (λ ps. OpenRight m k width ps (added m k line cells p.target p.pin) (added_cells m k line cells p.target p.pin))
          (sym (ap reverse (split_more pixels i p (drop (i + 1) pixels) next).0 ∙ reverse-push (take i pixels) p))
          (add_opens m k width (reverse (take i pixels)) line cells filled.drawn sound law p check).0;
      ahead = check_is ∙ ap (λ ch. and_then ch (blocked m k (take (i + 1) pixels) (drop (i + 1) pixels))) check;
      rests = added_plate m k line cells p.target p.pin ∙ filled.rests;
    }

-- The same by what a call said and left.
module _ {C : Type 0} (m : Meaning) (k : Kind C) (width : ℕ) (pixels : List Wanted) (plate : Plate C) (i : ℕ) (line : OpenLine C) (cells : List (Cell C)) (filled : Filled m k width pixels plate i line cells)
    (fits : width * m.states + m.states ≤ length cells) (below : i < width) (p : Wanted) (next : drop i pixels ≡ p ∷ drop (i + 1) pixels)
    (line' : OpenLine C) (line_is : line' ≡ added m k line cells p.target p.pin) where
  pub fill_more : Sound m → Lawful k → (cells' : List (Cell C)) → cells' ≡ added_cells m k line cells p.target p.pin →
      Told None (add_check m k line cells p.target p.pin) → Filled m k width pixels plate (i + 1) line' cells'
  fill_more sound law cells' cells_are says =
      subst (Filled m k width pixels plate (i + 1) line') (sym cells_are)
      (subst (λ l. Filled m k width pixels plate (i + 1) l (added_cells m k line cells p.target p.pin)) (sym line_is)
      (filled_more m k width pixels plate i line cells filled fits below p next sound law (told None (add_check m k line cells p.target p.pin) tt tt says)))

  pub fill_stops : (result : Result (Unit {0}) Fault) (fault : Fault) → IsErrAnd result (λ e. e ≡ fault) → Told (Some fault) (add_check m k line cells p.target p.pin) →
      (result ≡ answer (blocked m k [] pixels) tt) × (line'.plate ≡ plate) × (blocked m k [] pixels ≡ None → ⊥)
  fill_stops result fault by says =
      let stops = filled_stops m k width pixels plate i line cells filled fits below p next fault (told (Some fault) (add_check m k line cells p.target p.pin) tt tt says) in (
        passed_on result (blocked m k [] pixels) fault by (ap (λ ch. answer ch tt) (sym stops)),
        ap (λ l. l.plate) line_is ∙ added_plate m k line cells p.target p.pin ∙ filled.rests,
        λ none. true≢false (cc (sym stops ∙ none)),
      )
