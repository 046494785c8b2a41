-- The record of a run, entry by entry.
use Rattle.std.proofs.Common.{◌≡◌, ℕ, ◌+◌, ◌<◌, ◌≤◌, List, [], ◌∷◌, ◌++◌, map, length, get_or, take, drop, Ok, Err, Result, sym, refl, ap, ◌∙◌, subst, arith}
use Rattle.std.proofs.lemmas.List.{map_push, take_more, drop_all, drop_more, length-map, length-take-le}
use Rattle.cost.specs.Kind.{Kind}
use Rattle.display.specs.Machine.{Meaning}
use Rattle.lines.specs.declared.fault.Fault.{Fault}
use Rattle.viterbi.specs.declared.Cell.{Cell}
use Rattle.run.specs.declared.entry.Answer.{Answer}
use Rattle.run.specs.declared.entry.Call.{Call}
use Rattle.run.specs.declared.entry.Entry.{Entry}
use Rattle.run.specs.declared.state.State.{State}
use Rattle.run.specs.declared.state.Step.{Step}
use Rattle.run.specs.declared.state.Unanswered.{Unanswered}
use Rattle.run.specs.declared.state.Unanswered.TheVariants.{NotFound}
use Rattle.run.specs.Account.{Account, new_account, entered, account_from}
use Rattle.run.specs.Promise.{RightAt, AllRight, Stops, Promise}
use Rattle.run.specs.Agreement.{Agrees, StepRight, StepFrom}

module _ {C : Type 0} (m : Meaning) (k : Kind C) (n : ℕ) where
  account_push : (a : Account C) (es : List (Entry C)) (e : Entry C) → account_from a (es ++ e ∷ []) ≡ entered (account_from a es) e.call e.answer
  account_push a [] e = refl
  account_push a (x ∷ es) e = account_push (entered a x.call x.answer) es e

  right_push : (a : Account C) (es : List (Entry C)) (e : Entry C) → AllRight m k n a es →
      RightAt m k n (account_from a es).closed (account_from a es).stand e.call e.answer → AllRight m k n a (es ++ e ∷ [])
  right_push a [] e all right = (right, tt)
  right_push a (x ∷ es) e all right = (all.0, right_push (entered a x.call x.answer) es e all.1 right)

  module _ (calls : List Call) where
    -- the first i calls are made and recorded, and what is held agrees with the account
    pub record Recorded (i : ℕ) (entries : List (Entry C)) (state : State C) (cells : List (Cell C)) : Type 0 where
      pub made : map (λ e. e.call) entries ≡ take i calls
      pub right : AllRight m k n new_account entries
      pub agrees : Agrees m k (account_from new_account entries) state cells

    as_many : (i : ℕ) (entries : List (Entry C)) → i ≤ length calls → map (λ e. e.call) entries ≡ take i calls → length entries ≡ i
    as_many i entries h e = sym (length-map entries (λ e. e.call)) ∙ ap length e ∙ length-take-le i calls h

    module _ (i : ℕ) (entries : List (Entry C)) (state : State C) (cells : List (Cell C)) (so_far : Recorded i entries state cells) where
      pub kept_all : length calls ≤ i → i ≤ length calls → Promise m k n calls entries
      kept_all h g =
          let long = as_many i entries g so_far.made in
          record {
            made = so_far.made ∙ ap (λ j. take j calls) (sym long);
            stops = subst (Stops m k n (account_from new_account entries).stand) (sym (drop_all (length entries) calls (omega arith))) tt;
            right = so_far.right;
          }

      -- and so after one more step, which records its answer, or finds nothing that takes its call
      module _ (d : Call) (after : List (Cell C)) (step : Step C) (below : i < length calls) (long : length cells ≡ n) (made : StepFrom m k state cells (get_or calls i d) after step) where
        right : StepRight m k n (account_from new_account entries) (get_or calls i d) after step.state step.answer
        right = subst (λ l. StepRight m k l (account_from new_account entries) (get_or calls i d) after step.state step.answer) long (made (account_from new_account entries) so_far.agrees)

        pub recorded_more : (answer : Result (Answer C) Fault) (more : List (Entry C)) → step.answer ≡ Ok answer →
            more ≡ entries ++ record { call = get_or calls i d; answer = answer } ∷ [] → Recorded (i + 1) more step.state after
        recorded_more answer more answer_is more_is =
            let e : Entry C = record { call = get_or calls i d; answer = answer } in
            let now : StepRight m k n (account_from new_account entries) (get_or calls i d) after step.state (Ok answer) = rw answer_is at right in
            subst (λ es. Recorded (i + 1) es step.state after) (sym more_is)
            (record {
              made = map_push (λ e. e.call) entries e ∙ ap (λ cs. cs ++ get_or calls i d ∷ []) so_far.made ∙ sym (take_more calls i d below);
              right = right_push new_account entries e so_far.right now.0;
              agrees = subst (λ a. Agrees m k a step.state after) (sym (account_push new_account entries e)) now.1;
            })

        pub kept_so_far : (why : Unanswered) → step.answer ≡ Err why → why ≡ NotFound → Promise m k n calls entries
        kept_so_far why answer_is lost =
            let now : StepRight m k n (account_from new_account entries) (get_or calls i d) after step.state (Err NotFound) = rw (answer_is ∙ ap (λ w. Err w) lost) at right in
            let many = as_many i entries (omega arith) so_far.made in
            record {
              made = so_far.made ∙ ap (λ j. take j calls) (sym many);
              stops =
                  subst (Stops m k n (account_from new_account entries).stand) (sym (ap (λ j. drop j calls) many ∙ drop_more calls i d below)) now;
              right = so_far.right;
            }
