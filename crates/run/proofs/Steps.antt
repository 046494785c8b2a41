-- Each call keeps the agreement, and its answer is right.
use Rattle.std.proofs.Common.{◌≡◌, ℕ, suc, ◌+◌, ◌<◌, min, Bool, true, false, cond, ◌↔◌, List, [], ◌∷◌, reverse, length, take, Some, None, Ok, Err, Option, Result, sym, refl, ap, ◌∙◌, subst, inl, inr, arith}
use Rattle.std.proofs.lemmas.Bool.{true≢false}
use Rattle.std.proofs.lemmas.Bool.Decides.{nat_tests}
use Rattle.cost.specs.Kind.{Kind, Lawful}
use Rattle.display.specs.Machine.{Meaning, Lawful as Sound}
use Rattle.lines.specs.Checks.{and_then, left}
use Rattle.lines.specs.declared.fault.Fault.{Fault}
use Rattle.lines.specs.declared.fault.Fault.TheVariants.{NoWay}
use Rattle.trellis.specs.declared.plate.OpenLine.{OpenLine}
use Rattle.trellis.specs.declared.plate.Plate.{Plate}
use Rattle.trellis.specs.Calls.{answer_back, plate_full, line_empty, start_check, early_check, ready_check, started, started_cells, pixels_of, add_check, added, added_cells, struck, close_check, line_cost, with_line, closed as closing, closed_codes, closed_preview}
use Rattle.trellis.specs.Cells.{begun}
use Rattle.trellis.proofs.Checking.{passed_both}
use Rattle.viterbi.specs.declared.Cell.{Cell}
use Rattle.run.specs.declared.entry.Answer.TheVariants.{Taken}
use Rattle.run.specs.declared.state.State.TheVariants.{Drawing}
use Rattle.run.specs.Account.{Wanted, ClosedLine, drawing, without_last}
use Rattle.run.specs.Rivals.{Rival, Best}
use Rattle.run.specs.Promise.{AddRight, Reports}
use Rattle.run.specs.Agreement.{PlateRight, LineRight, StandRight}
use Rattle.run.proofs.Bridge.{some_rival, reports_least}
use Rattle.run.proofs.Opened.{start_opens, has_pixels, add_check_is, added_plate, add_leaves, add_opens, back_opens, close_check_is, closed_best}

-- what an answer that gives something back tells of its check
pub taken_back : {A B : Type 0} (check : Option Fault) (x y : A) (b : B) → ◌≡◌ {A = Result A (B × Fault)} (Ok y) (answer_back check x b) → (check ≡ None) × (y ≡ x)
taken_back None x y b e = (refl, cc)
taken_back (Some fault) x y b e = absurd (true≢false (cc))

pub refused_back : {A B : Type 0} (check : Option Fault) (x : A) (b back : B) (fault : Fault) → ◌≡◌ {A = Result A (B × Fault)} (Err (back, fault)) (answer_back check x b) → (check ≡ Some fault) × (back ≡ b)
refused_back None x b back fault e = absurd (true≢false (cc))
refused_back {A} {B} (Some other) x b back fault e =
    let pair : ◌≡◌ {A = B × Fault} (back, fault) (b, other) = cc in (ap (λ y. Some y.1) (sym pair), ap (λ y. y.0) pair)

module _ {C : Type 0} (m : Meaning) (k : Kind C) where
  -- pixel and pin, by the fault that an earlier check finds and by whether the next column can be reached
  add_by : (check : Option Fault) (b : Bool) (pixels : List Wanted) (n : ℕ) → ((b ≡ true) ↔ ((codes : List ℕ) × Rival m pixels codes)) →
      (and_then check (cond b None (Some (NoWay n))) ≡ None → AddRight m k check pixels n (Ok Taken))
      × ((fault : Fault) → and_then check (cond b None (Some (NoWay n))) ≡ Some fault → AddRight m k check pixels n (Err fault))
  add_by (Some early) b pixels n iff = (λ e. absurd (true≢false (cc)), λ fault e. cc)
  add_by None true pixels n iff = (λ e. inl (refl, iff.0 refl), λ fault e. absurd (true≢false (cc)))
  add_by None false pixels n iff = (λ e. absurd (true≢false (cc)), λ fault e. inr (cc, λ codes r. true≢false (sym (iff.1 (codes, r)))))

  module _ (sound : Sound m) (law : Lawful k) (closed : List (ClosedLine C)) where
    pub start_taken : (plate : Plate C) (cells : List (Cell C)) (width : ℕ) (line : OpenLine C) → PlateRight m k closed plate →
        ◌≡◌ {A = Result (OpenLine C) (Plate C × Fault)} (Ok line) (started m k plate cells width) →
        (start_check m (length cells) (length closed) width ≡ None) × LineRight m k closed width [] line (started_cells m k plate cells width)
    start_taken plate cells width line right e =
        let t = taken_back (start_check m (length cells) plate.lines width) _ line plate e in
        let few = not_full plate.lines (passed_both (plate_full plate.lines) _ t.0).0 in (
          subst (λ n. start_check m (length cells) n width ≡ None) right.lines t.0,
          subst (λ l. LineRight m k closed width [] l (started_cells m k plate cells width)) (sym t.1)
              (subst (λ ch. LineRight m k closed width [] (record { plate = plate; width = width; left = width }) (left ch (begun m k cells) cells)) (sym t.0)
              (record { plate = right; room = omega (arith, few, right.lines); drawn = (start_opens m k plate cells width t.0).0 })),
        )
      where
        not_full : (lines : ℕ) → plate_full lines ≡ None → lines < 1024
        not_full lines h = grind (arith, nat_tests)

    pub start_refused : (plate back : Plate C) (cells : List (Cell C)) (width : ℕ) (fault : Fault) → PlateRight m k closed plate →
        ◌≡◌ {A = Result (OpenLine C) (Plate C × Fault)} (Err (back, fault)) (started m k plate cells width) →
        (start_check m (length cells) (length closed) width ≡ Some fault) × (back ≡ plate) × (started_cells m k plate cells width ≡ cells)
    start_refused plate back cells width fault right e =
        let check = start_check m (length cells) plate.lines width in
        let t = refused_back check _ plate back fault e in (
          subst (λ n. start_check m (length cells) n width ≡ Some fault) right.lines t.0,
          t.1,
          ap (λ ch. left ch (begun m k cells) cells) t.0,
        )

    pub report_right : (plate : Plate C) → PlateRight m k closed plate → Reports m k closed plate.lines plate.total
    report_right plate right = record {
      count = right.lines;
      total_is = right.total;
      least = λ others choice. rw right.total (reports_least m k law closed right.best others choice);
    }

    module _ (width : ℕ) (pixels : List Wanted) (line : OpenLine C) (cells : List (Cell C)) (right : LineRight m k closed width pixels line cells) where
      module _ (p : Wanted) where
        pub add_refused : (fault : Fault) → add_check m k line cells p.target p.pin ≡ Some fault →
            AddRight m k (early_check m (length cells) width p.pin (length pixels)) (reverse (p ∷ pixels)) (length pixels) (Err fault)
            × (added m k line cells p.target p.pin ≡ line) × (added_cells m k line cells p.target p.pin ≡ cells)
        add_refused fault check =
            let stays = add_leaves m k line cells p.target p.pin fault check in
            ((add_by _ _ _ _ (some_rival m k sound law p pixels)).1 fault (sym (add_check_is m k width pixels line cells right.drawn p) ∙ check), stays.0, stays.1)

        pub add_taken : add_check m k line cells p.target p.pin ≡ None →
            AddRight m k (early_check m (length cells) width p.pin (length pixels)) (reverse (p ∷ pixels)) (length pixels) (Ok Taken)
            × LineRight m k closed width (p ∷ pixels) (added m k line cells p.target p.pin) (added_cells m k line cells p.target p.pin)
        add_taken check = (
          (add_by _ _ _ _ (some_rival m k sound law p pixels)).0 (sym (add_check_is m k width pixels line cells right.drawn p) ∙ check),
          record {
            plate = subst (PlateRight m k closed) (sym (added_plate m k line cells p.target p.pin)) right.plate;
            room = right.room;
            drawn = (add_opens m k width pixels line cells right.drawn sound law p check).0;
          },
        )

      pub back_refused : (fault : Fault) → line_empty (pixels_of line) ≡ Some fault →
          (line_empty (length pixels) ≡ Some fault) × (struck line ≡ line)
      back_refused fault check = (
        ap line_empty (sym (has_pixels m k width pixels line cells right.drawn)) ∙ check,
        ap (λ ch. left ch (record { plate = line.plate; width = line.width; left = line.left + 1 }) line) check,
      )

      module _ (codes preview : List ℕ) where
        ready_is : close_check m k line cells codes preview ≡ ready_check m (length cells) width (length codes) (length preview) (length pixels)
        ready_is = close_check_is m k width pixels line cells right.drawn sound law codes preview

        pub close_refused : (back : OpenLine C) (fault : Fault) → ◌≡◌ {A = Result (Plate C × C) (OpenLine C × Fault)} (Err (back, fault)) (closing m k line cells codes preview) →
            (ready_check m (length cells) width (length codes) (length preview) (length pixels) ≡ Some fault) × (back ≡ line)
        close_refused back fault e =
            let t = refused_back (close_check m k line cells codes preview) _ line back fault e in (sym ready_is ∙ t.0, t.1)

        pub close_taken : (plate : Plate C) (cost : C) → ◌≡◌ {A = Result (Plate C × C) (OpenLine C × Fault)} (Ok (plate, cost)) (closing m k line cells codes preview) →
            (cs ps : List ℕ) → cs ≡ take (length pixels) (closed_codes m k line cells codes preview) → ps ≡ take (length pixels) (closed_preview m k line cells codes preview) →
            (ready_check m (length cells) width (length codes) (length preview) (length pixels) ≡ None)
            × Best m k (record { pixels = reverse pixels; codes = cs; preview = ps; cost = cost })
            × PlateRight m k (record { pixels = reverse pixels; codes = cs; preview = ps; cost = cost } ∷ closed) plate
        close_taken plate cost e cs ps cs_are ps_are =
            let t = taken_back {A = Plate C × C} (close_check m k line cells codes preview) _ (plate, cost) line e in
            let cost_is : cost ≡ line_cost m k line cells = ap (λ y. y.1) t.1 in
            let plate_is : plate ≡ with_line k line.plate (line_cost m k line cells) = ap (λ y. y.0) t.1 in
            let best = closed_best m k width pixels line cells right.drawn sound law codes preview t.0 cs ps cost cs_are ps_are cost_is in (
              sym ready_is ∙ t.0,
              best,
              record {
                lines = ap (λ p. p.lines) plate_is ∙ one_more line.plate.lines (length closed) right.plate.lines right.room;
                few = right.room;
                total = ap (λ p. p.total) plate_is ∙ ap (λ x. k.join line.plate.total x) (sym cost_is) ∙ ap (λ x. k.join x cost) right.plate.total;
                best = (best, right.plate.best);
              },
            )
          where
            one_more : (l n : ℕ) → l ≡ n → n < 1024 → min (l + 1) 65535 ≡ suc n
            one_more l n e h = omega arith

    -- back strikes the last pixel
    pub back_taken : (width : ℕ) (pixels : List Wanted) (line : OpenLine C) (cells : List (Cell C)) → LineRight m k closed width pixels line cells →
        line_empty (pixels_of line) ≡ None →
        (line_empty (length pixels) ≡ None) × StandRight m k closed (without_last (drawing width pixels)) (Drawing (struck line)) cells
    back_taken width [] line cells right check =
        absurd (true≢false (cc (sym (ap line_empty (has_pixels m k width [] line cells right.drawn)) ∙ check)))
    back_taken width (p ∷ pixels) line cells right check = (
      not_empty (length pixels),
      record {
        plate = subst (PlateRight m k closed) (sym (struck_plate (line_empty (pixels_of line)))) right.plate;
        room = right.room;
        drawn = back_opens m k width p pixels line cells right.drawn check;
      },
    )
      where
        not_empty : (n : ℕ) → line_empty (suc n) ≡ None
        not_empty n = grind (arith, nat_tests)

        struck_plate : (check : Option Fault) → (left check (record { plate = line.plate; width = line.width; left = line.left + 1 }) line).plate ≡ line.plate
        struck_plate None = refl
        struck_plate (Some fault) = refl
