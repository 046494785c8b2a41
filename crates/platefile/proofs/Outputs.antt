-- What comes out of a file does not depend on how far is counted, and keeps the promise.
use Rattle.std.proofs.Common.{◌≡◌, ℕ, zero, suc, ◌+◌, ◌<◌, ◌≤◌, Bool, true, false, cond, eqb, ltb, ◌⊎◌, List, [], ◌∷◌, length, Some, None, Ok, Err, Option, Result, unwrap_or, sym, refl, ap, ◌∙◌, subst, inl, inr, ⊎_elim, add-one, arith, length-drop}
use Rattle.std.specs.List.{AllByRecursion}
use Rattle.std.proofs.lemmas.Bool.{true≢false, ltb-false}
use Rattle.cost.specs.Kind.{Kind, Lawful}
use Rattle.display.specs.Machine.{Meaning, Lawful as Sound}
use Rattle.lines.specs.declared.fault.Fault.{Fault}
use Rattle.run.specs.Account.{Wanted, ClosedLine}
use Rattle.run.specs.Rivals.{Best, total_of}
use Rattle.run.proofs.Bridge.{reports_least}
use Rattle.records.specs.declared.fault.FileFault.{FileFault}
use Rattle.records.specs.declared.fault.FileFault.TheVariants.{NoRecord, Plate}
use Rattle.records.specs.declared.fault.PlateFault.TheVariants.{Misplaced, OutOfRange}
use Rattle.records.specs.declared.record.Mark.{Mark}
use Rattle.records.specs.declared.record.Mark.TheVariants.{Header, Palette, Pins, Line, End}
use Rattle.records.specs.declared.record.Stage.{Stage}
use Rattle.records.specs.Records.{mark_at, body_at, length_at, after_record, record_check, mark_check, pins_right}
use Rattle.one_line.specs.Pixels.{pixels_of_line}
use Rattle.one_line.specs.Drawing.{drawn_line}
use Rattle.platefile.specs.Files.{line_out, total_out, fault_out, stage_after, Going, on_drawn, on_mark, on_record, outputs_from, Kept}

-- a record that passes 13 to 17: four bytes at least are there, and its mark passes 14 to 17
good : (colours width : ℕ) (stage : Stage) (at : ℕ) (rest : List ℕ) → record_check colours width stage at rest ≡ None → (4 ≤ length rest) × (mark_check colours width stage at rest (mark_at rest) ≡ None)
good colours width stage at rest = by_length (ltb (length rest) 4) refl
  where
    by_length : (b : Bool) → ltb (length rest) 4 ≡ b → cond b (Some (NoRecord at)) (mark_check colours width stage at rest (mark_at rest)) ≡ None →
        (4 ≤ length rest) × (mark_check colours width stage at rest (mark_at rest) ≡ None)
    by_length true f h = absurd (true≢false (cc))
    by_length false f h = (ltb-false (length rest) 4 f, h)

-- so it leaves less to read
pub shorter : (colours width : ℕ) (stage : Stage) (at : ℕ) (rest : List ℕ) → record_check colours width stage at rest ≡ None → length (after_record rest) < length rest
shorter colours width stage at rest e = let long = (good colours width stage at rest e).0 in simp length-drop (omega arith)

none_or : {A : Type 0} (o : Option A) → ((x : A) × (o ≡ Some x)) ⊎ (o ≡ None)
none_or None = inr refl
none_or (Some x) = inl (x, refl)

module _ {C : Type 0} (m : Meaning) (k : Kind C) (cells colours width : ℕ) where
  -- two ways to go on that agree on what is shorter come to the same
  module _ (go on : Going m k cells colours width) (at : ℕ) (rest : List ℕ) (same : (i : ℕ) (p : Option (List ℕ)) (l : ℕ) (t : C) → go i (after_record rest) p l t ≡ on i (after_record rest) p l t) where
    same_drawn : (lines : ℕ) (total : C) (r : Result (ClosedLine C) Fault) →
        on_drawn m k cells colours width go at rest lines total r ≡ on_drawn m k cells colours width on at rest lines total r
    same_drawn lines total (Ok line) = ap (λ os. line_out lines line ∷ os) (same _ _ _ _)
    same_drawn lines total (Err fault) = refl

    same_mark : (pins : Option (List ℕ)) (lines : ℕ) (total : C) (mark : Option Mark) →
        on_mark m k cells colours width go at rest pins lines total mark ≡ on_mark m k cells colours width on at rest pins lines total mark
    same_mark pins lines total None = refl
    same_mark pins lines total (Some Header) = refl
    same_mark pins lines total (Some Palette) = refl
    same_mark pins lines total (Some Pins) = ap (λ os. cond (pins_right width (body_at rest)) os (fault_out (Plate (OutOfRange at)) ∷ [])) (same _ _ _ _)
    same_mark pins lines total (Some Line) = same_drawn lines total _
    same_mark pins lines total (Some End) = refl

    same_record : (pins : Option (List ℕ)) (lines : ℕ) (total : C) (check : Option FileFault) →
        on_record m k cells colours width go at rest pins lines total check ≡ on_record m k cells colours width on at rest pins lines total check
    same_record pins lines total (Some fault) = refl
    same_record pins lines total None = same_mark pins lines total (mark_at rest)

  -- what is read does not depend on the count, where it is more than the bytes left
  pub enough : (s t at : ℕ) (rest : List ℕ) (pins : Option (List ℕ)) (lines : ℕ) (total : C) → length rest < s → length rest < t →
      outputs_from m k cells colours width s at rest pins lines total ≡ outputs_from m k cells colours width t at rest pins lines total
  enough zero t at rest pins lines total h g = absurd (omega arith)
  enough (suc s) zero at rest pins lines total h g = absurd (omega arith)
  enough (suc s) (suc t) at rest pins lines total h g =
      ⊎_elim
      (λ e. ap (on_record m k cells colours width (outputs_from m k cells colours width s) at rest pins lines total) e.1
      ∙ sym (ap (on_record m k cells colours width (outputs_from m k cells colours width t) at rest pins lines total) e.1))
      (λ e. let less = shorter colours width (stage_after pins) at rest e in
      same_record (outputs_from m k cells colours width s) (outputs_from m k cells colours width t) at rest
      (λ i p l x. enough s t i (after_record rest) p l x (omega arith) (omega arith)) pins lines total (record_check colours width (stage_after pins) at rest))
      (none_or (record_check colours width (stage_after pins) at rest))

  module _ (sound : Sound m) (law : Lawful k) (drawn_best : (lines : ℕ) (pixels : List Wanted) (line : ClosedLine C) → drawn_line m k cells lines width pixels ≡ Ok line → Best m k line) where
    module _ (go : Going m k cells colours width) (at : ℕ) (rest : List ℕ) (closed : List (ClosedLine C)) (best : AllByRecursion (Best m k) closed)
        (later : (i : ℕ) (p : Option (List ℕ)) (more : List (ClosedLine C)) → AllByRecursion (Best m k) more → Kept m k cells colours width more (go i (after_record rest) p (length more) (total_of m k more))) where
      kept_drawn : (pixels : List Wanted) (r : Result (ClosedLine C) Fault) → drawn_line m k cells (length closed) width pixels ≡ r →
          Kept m k cells colours width closed (on_drawn m k cells colours width go at rest (length closed) (total_of m k closed) r)
      kept_drawn pixels (Ok line) e =
          let b = drawn_best (length closed) pixels line e in (
            refl,
            b,
            subst (λ n. Kept m k cells colours width (line ∷ closed) (go (at + (4 + length_at rest)) (after_record rest) None n (total_of m k (line ∷ closed)))) (sym (add-one (length closed)))
                (later (at + (4 + length_at rest)) None (line ∷ closed) (b, best)),
          )
      kept_drawn pixels (Err fault) e = refl

      kept_pins : (b : Bool) → Kept m k cells colours width closed
          (cond b (go (at + (4 + length_at rest)) (after_record rest) (Some (body_at rest)) (length closed) (total_of m k closed)) (fault_out (Plate (OutOfRange at)) ∷ []))
      kept_pins true = later (at + (4 + length_at rest)) (Some (body_at rest)) closed best
      kept_pins false = refl

      kept_end : (b : Bool) → Kept m k cells colours width closed (cond b (total_out (length closed) (total_of m k closed) ∷ []) (fault_out (Plate (Misplaced (at + 4))) ∷ []))
      kept_end true = (record { count = refl; total_is = refl; least = λ others choice. reports_least m k law closed best others choice }, refl)
      kept_end false = refl

      kept_mark : (pins : Option (List ℕ)) (mark : Option Mark) → mark_check colours width (stage_after pins) at rest mark ≡ None →
          Kept m k cells colours width closed (on_mark m k cells colours width go at rest pins (length closed) (total_of m k closed) mark)
      kept_mark pins None e = absurd (true≢false (cc))
      kept_mark None (Some Header) e = absurd (true≢false (cc))
      kept_mark (Some pins) (Some Header) e = absurd (true≢false (cc))
      kept_mark None (Some Palette) e = absurd (true≢false (cc))
      kept_mark (Some pins) (Some Palette) e = absurd (true≢false (cc))
      kept_mark pins (Some Pins) e = kept_pins (pins_right width (body_at rest))
      kept_mark pins (Some Line) e = kept_drawn (pixels_of_line (unwrap_or pins []) (body_at rest)) _ refl
      kept_mark pins (Some End) e = kept_end (eqb (length (after_record rest)) 0)

    pub kept_from : (s at : ℕ) (rest : List ℕ) (pins : Option (List ℕ)) (closed : List (ClosedLine C)) → length rest < s → AllByRecursion (Best m k) closed →
        Kept m k cells colours width closed (outputs_from m k cells colours width s at rest pins (length closed) (total_of m k closed))
    kept_from zero at rest pins closed h best = absurd (omega arith)
    kept_from (suc s) at rest pins closed h best =
        let Here : Option FileFault → Type 0 =
        λ check. Kept m k cells colours width closed (on_record m k cells colours width (outputs_from m k cells colours width s) at rest pins (length closed) (total_of m k closed) check)
        in
        ⊎_elim
        (λ e. subst Here (sym e.1) refl)
        (λ e. subst Here (sym e)
        (let less = shorter colours width (stage_after pins) at rest e in
        kept_mark (outputs_from m k cells colours width s) at rest closed best
        (λ i p more all. kept_from s i (after_record rest) p more (omega arith) all) pins (mark_at rest) (good colours width (stage_after pins) at rest e).1))
        (none_or (record_check colours width (stage_after pins) at rest))
