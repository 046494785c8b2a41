-- What each call of a run leaves, as the contracts of its steps say it.
use Rattle.std.proofs.Common.{◌≡◌, ℕ, List, [], ◌∷◌, reverse, length, take, Some, None, Ok, Err, vec_items, Option, Result, Vec, sym, refl, ap, ◌∙◌, ap₂, subst}
use Rattle.std.specs.declared.alloc.Global.{Global}
use Rattle.cost.specs.Kind.{Kind, Lawful}
use Rattle.display.specs.Machine.{Meaning, Lawful as Sound}
use Rattle.display.specs.declared.colour.Target.{Target}
use Rattle.lines.specs.Checks.{answer}
use Rattle.lines.specs.declared.fault.Fault.{Fault}
use Rattle.trellis.specs.declared.plate.OpenLine.{OpenLine}
use Rattle.trellis.specs.declared.plate.Plate.{Plate}
use Rattle.trellis.specs.declared.plate.Report.{Report as Summary}
use Rattle.trellis.specs.Calls.{line_empty, started, started_cells, pixels_of, add_check, added, added_cells, struck, closed as closing, closed_codes, closed_preview, early_check}
use Rattle.viterbi.specs.declared.Cell.{Cell}
use Rattle.run.specs.declared.entry.Answer.TheVariants.{Taken, Closed, Reported}
use Rattle.run.specs.declared.entry.Call.{Call}
use Rattle.run.specs.declared.entry.Call.TheVariants.{Start, Pixel, Pin, Back, Close, Abandon, Report}
use Rattle.run.specs.declared.state.State.TheVariants.{Resting, Drawing, Ended}
use Rattle.run.specs.declared.state.Step.{Step}
use Rattle.run.specs.Account.{Wanted, ClosedLine, Stand, resting, drawing, ended, Account, without_last}
use Rattle.run.specs.Promise.{by_check, AddRight, CloseRight, Reports}
use Rattle.run.specs.Agreement.{PlateRight, LineRight, StandRight, StepRight, StepFrom, plain, plain_step}
use Rattle.run.proofs.Opened.{has_pixels}
use Rattle.run.proofs.Steps.{start_taken, report_right, add_taken, add_refused, back_taken, back_refused, close_taken, close_refused}

-- a pixel, or a pin
abbrev pub adding : Target → Option ℕ → Call
adding target None = Pixel target
adding target (Some code) = Pin target code

-- the account of a plate at rest, and of an open line
abbrev at_rest : {C : Type 0} → List (ClosedLine C) → Account C
at_rest lines = record { closed = lines; stand = resting }

abbrev in_line : {C : Type 0} → List (ClosedLine C) → ℕ → List Wanted → Account C
in_line lines width pixels = record { closed = lines; stand = drawing width pixels }

-- no other account agrees with the plate at rest, or with the open line
module _ {C : Type 0} (m : Meaning) (k : Kind C) (cells after : List (Cell C)) (call : Call) (step : Step C) where
  from_rest : (plate : Plate C) →
      ((lines : List (ClosedLine C)) → PlateRight m k lines plate → StepRight m k (length cells) (at_rest lines) call after step.state step.answer) →
      StepFrom m k (Resting plate) cells call after step
  from_rest plate each a agrees = by_stand a.closed a.stand agrees
    where
      by_stand : (closed : List (ClosedLine C)) (stand : Stand) → StandRight m k closed stand (Resting plate) cells →
          StepRight m k (length cells) (record { closed = closed; stand = stand }) call after step.state step.answer
      by_stand closed resting right = each closed right
      by_stand closed (drawing width pixels) right = absurd right
      by_stand closed ended right = absurd right

  from_line : (line : OpenLine C) →
      ((lines : List (ClosedLine C)) (width : ℕ) (pixels : List Wanted) → LineRight m k lines width pixels line cells →
      StepRight m k (length cells) (in_line lines width pixels) call after step.state step.answer) →
      StepFrom m k (Drawing line) cells call after step
  from_line line each a agrees = by_stand a.closed a.stand agrees
    where
      by_stand : (closed : List (ClosedLine C)) (stand : Stand) → StandRight m k closed stand (Drawing line) cells →
          StepRight m k (length cells) (record { closed = closed; stand = stand }) call after step.state step.answer
      by_stand closed resting right = absurd right
      by_stand closed (drawing width pixels) right = each closed width pixels right
      by_stand closed ended right = absurd right

module _ {C : Type 0} (m : Meaning) (k : Kind C) (sound : Sound m) (law : Lawful k) where
  module _ (plate : Plate C) (cells after : List (Cell C)) where
    pub starts : (width : ℕ) (line : OpenLine C) → ◌≡◌ {A = Result (OpenLine C) (Plate C × Fault)} (Ok line) (started m k plate cells width) → after ≡ started_cells m k plate cells width →
        StepFrom m k (Resting plate) cells (Start width) after (record { state = Drawing line; answer = Ok (Ok Taken) })
    starts width line e cells_are = from_rest m k cells after (Start width) (record { state = Drawing line; answer = Ok (Ok Taken) }) plate (λ lines right.
        let t = start_taken m k sound law lines plate cells width line right e in
        (sym (ap by_check t.0), subst (LineRight m k lines width [] line) (sym cells_are) t.1))

    pub reports : (report : Summary C) → report ≡ record { lines = plate.lines; total = plate.total } →
        StepFrom m k (Resting plate) cells Report after (record { state = Ended; answer = Ok (Ok (Reported report.lines report.total)) })
    reports report is = from_rest m k cells after Report (record { state = Ended; answer = Ok (Ok (Reported report.lines report.total)) }) plate (λ lines right.
        (subst (λ r. Reports m k lines r.lines r.total) (sym is) (report_right m k sound law lines plate right), tt))

  module _ (line : OpenLine C) (cells after : List (Cell C)) where
    module _ (lines : List (ClosedLine C)) (width : ℕ) (pixels : List Wanted) (right : LineRight m k lines width pixels line cells) where
      module _ (target : Target) (pin : Option ℕ) (cells_are : after ≡ added_cells m k line cells target pin) where
        grown : add_check m k line cells target pin ≡ None →
            AddRight m k (early_check m (length cells) width pin (length pixels)) (reverse (record { target = target; pin = pin } ∷ pixels)) (length pixels) (Ok Taken)
            × LineRight m k lines width (record { target = target; pin = pin } ∷ pixels) (added m k line cells target pin) after
        grown e =
            let t = add_taken m k sound law lines width pixels line cells right (record { target = target; pin = pin }) e in
            (t.0, subst (LineRight m k lines width (record { target = target; pin = pin } ∷ pixels) (added m k line cells target pin)) (sym cells_are) t.1)

        stayed : (fault : Fault) → add_check m k line cells target pin ≡ Some fault →
            AddRight m k (early_check m (length cells) width pin (length pixels)) (reverse (record { target = target; pin = pin } ∷ pixels)) (length pixels) (Err fault)
            × LineRight m k lines width pixels (added m k line cells target pin) after
        stayed fault e =
            let t = add_refused m k sound law lines width pixels line cells right (record { target = target; pin = pin }) fault e in
            (t.0, subst (LineRight m k lines width pixels (added m k line cells target pin)) (sym (cells_are ∙ t.2)) (subst (λ l. LineRight m k lines width pixels l cells) (sym t.1) right))

      adds_by : (target : Target) (pin : Option ℕ) → after ≡ added_cells m k line cells target pin → (said : Option Fault) → add_check m k line cells target pin ≡ said →
          StepRight m k (length cells) (in_line lines width pixels) (adding target pin) after (Drawing (added m k line cells target pin)) (Ok (plain (answer said tt)))
      adds_by target None a None e = grown target None a e
      adds_by target None a (Some fault) e = stayed target None a fault e
      adds_by target (Some code) a None e = grown target (Some code) a e
      adds_by target (Some code) a (Some fault) e = stayed target (Some code) a fault e

      strikes_by : after ≡ cells → (said : Option Fault) → line_empty (pixels_of line) ≡ said →
          StepRight m k (length cells) (in_line lines width pixels) Back after (Drawing (struck line)) (Ok (plain (answer said tt)))
      strikes_by cells_are None e =
          let t = back_taken m k sound law lines width pixels line cells right e in
          (sym (ap by_check t.0), subst (StandRight m k lines (without_last (drawing width pixels)) (Drawing (struck line))) (sym cells_are) t.1)
      strikes_by cells_are (Some fault) e =
          let t = back_refused m k sound law lines width pixels line cells right fault e in
          (sym (ap by_check t.0), subst (LineRight m k lines width pixels (struck line)) (sym cells_are) (subst (λ l. LineRight m k lines width pixels l cells) (sym t.1) right))

    -- what a call that gives nothing but its refusal leaves, by the open line after it and what it gave
    pub adds : (target : Target) (pin : Option ℕ) (next : OpenLine C) (done : Result (Unit {0}) Fault) (step : Step C) →
        next ≡ added m k line cells target pin → after ≡ added_cells m k line cells target pin → done ≡ answer (add_check m k line cells target pin) tt →
        step ≡ plain_step next done → StepFrom m k (Drawing line) cells (adding target pin) after step
    adds target pin next done step next_is cells_are done_is step_is =
        subst (StepFrom m k (Drawing line) cells (adding target pin) after) (sym (step_is ∙ ap₂ plain_step next_is done_is))
        (from_line m k cells after (adding target pin) (plain_step (added m k line cells target pin) (answer (add_check m k line cells target pin) tt)) line (λ lines width pixels right. adds_by lines width pixels right target pin cells_are (add_check m k line cells target pin) refl))

    pub strikes : (next : OpenLine C) (done : Result (Unit {0}) Fault) (step : Step C) → next ≡ struck line → after ≡ cells → done ≡ answer (line_empty (pixels_of line)) tt →
        step ≡ plain_step next done → StepFrom m k (Drawing line) cells Back after step
    strikes next done step next_is cells_are done_is step_is =
        subst (StepFrom m k (Drawing line) cells Back after) (sym (step_is ∙ ap₂ plain_step next_is done_is))
        (from_line m k cells after Back (plain_step (struck line) (answer (line_empty (pixels_of line)) tt)) line (λ lines width pixels right. strikes_by lines width pixels right cells_are (line_empty (pixels_of line)) refl))

    pub abandons : (plate : Plate C) → plate ≡ line.plate → StepFrom m k (Drawing line) cells Abandon after (record { state = Resting plate; answer = Ok (Ok Taken) })
    abandons plate plate_is = from_line m k cells after Abandon (record { state = Resting plate; answer = Ok (Ok Taken) }) line (λ lines width pixels right. (refl, subst (PlateRight m k lines) (sym plate_is) right.plate))

    module _ (codes preview : List ℕ) where
      pub closes_not : (back : OpenLine C) (fault : Fault) → ◌≡◌ {A = Result (Plate C × C) (OpenLine C × Fault)} (Err (back, fault)) (closing m k line cells codes preview) → after ≡ cells →
          StepFrom m k (Drawing line) cells (Close (length codes) (length preview)) after (record { state = Drawing back; answer = Ok (Err fault) })
      closes_not back fault e cells_are = from_line m k cells after (Close (length codes) (length preview)) (record { state = Drawing back; answer = Ok (Err fault) }) line (λ lines width pixels right.
          let t = close_refused m k sound law lines width pixels line cells right codes preview back fault e in (
            subst (λ ch. CloseRight m k ch (reverse pixels) (Err fault)) (sym t.0) refl,
            subst (LineRight m k lines width pixels back) (sym cells_are) (subst (λ l. LineRight m k lines width pixels l cells) (sym t.1) right),
          ))

      pub closes : (plate : Plate C) (cost : C) (v : Vec ℕ Global) (w : Vec ℕ Global) (count : ℕ) → ◌≡◌ {A = Result (Plate C × C) (OpenLine C × Fault)} (Ok (plate, cost)) (closing m k line cells codes preview) →
          count ≡ pixels_of line → vec_items v ≡ take count (closed_codes m k line cells codes preview) → vec_items w ≡ take count (closed_preview m k line cells codes preview) →
          StepFrom m k (Drawing line) cells (Close (length codes) (length preview)) after (record { state = Resting plate; answer = Ok (Ok (Closed v w cost)) })
      closes plate cost v w count e count_is codes_are preview_are = from_line m k cells after (Close (length codes) (length preview)) (record { state = Resting plate; answer = Ok (Ok (Closed v w cost)) }) line (λ lines width pixels right.
          let here = count_is ∙ has_pixels m k width pixels line cells right.drawn in
          let t = close_taken m k sound law lines width pixels line cells right codes preview plate cost e (vec_items v) (vec_items w)
          (codes_are ∙ ap (λ i. take i (closed_codes m k line cells codes preview)) here) (preview_are ∙ ap (λ i. take i (closed_preview m k line cells codes preview)) here)
          in
          (subst (λ ch. CloseRight m k ch (reverse pixels) (Ok (Closed v w cost))) (sym t.0) t.1, t.2))
