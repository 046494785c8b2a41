-- A line that has all its pixels, closed.
use Rattle.std.proofs.Common.{◌≡◌, ℕ, ◌+◌, ◌<◌, min, List, [], reverse, length, take, None, Ok, Err, Result, sym, ap, ◌∙◌, subst, arith}
use mathlib.Core.List.{reverse-reverse}
use Rattle.std.proofs.lemmas.List.{length-reverse, take_all}
use Rattle.std.proofs.lemmas.Bool.{true≢false}
use Rattle.cost.specs.Kind.{Kind, Lawful}
use Rattle.display.specs.Machine.{Meaning, Lawful as Sound}
use Rattle.lines.specs.Checks.{and_then, answer}
use Rattle.lines.specs.declared.fault.Fault.{Fault}
use Rattle.trellis.specs.Calls.{ready_check, close_check, line_cost, closed as closing, closed_codes, closed_preview}
use Rattle.trellis.specs.declared.plate.OpenLine.{OpenLine}
use Rattle.trellis.specs.declared.plate.Plate.{Plate}
use Rattle.viterbi.specs.declared.Cell.{Cell}
use Rattle.run.specs.Account.{Wanted}
use Rattle.run.specs.Rivals.{Best}
use Rattle.run.proofs.Opened.{close_check_is, closed_best}
use Rattle.run.proofs.Steps.{taken_back, refused_back}
use Rattle.one_line.specs.Drawing.{blocked, picked_line}
use Rattle.one_line.specs.Filled.{Full}
use Rattle.platefile.specs.Drawns.{Draws, DrawnRight}
use Rattle.platefile.specs.declared.drawing.DrawnLine.{DrawnLine}
use Rattle.one_line.specs.declared.error.DrawError.{DrawError}
use Rattle.one_line.proofs.Filling.{ready_is, not_short}
use Rattle.one_line.proofs.Passing.{best_is_picked}
use Rattle.one_line.proofs.Starting.{start_passed}

module _ {C : Type 0} (m : Meaning) (k : Kind C) where
  -- a line that was filled is closed on the plate and by the cells that it was started with
  pub whole_line : (plate : Plate C) (cells after : List (Cell C)) (width : ℕ) (pixels : List Wanted) (line : OpenLine C) → length after ≡ length cells → line.plate ≡ plate →
      (left : Plate C) (r : Result (DrawnLine C) DrawError) → DrawnRight m k (length after) width pixels line.plate left r → DrawnRight m k (length cells) width pixels plate left r
  whole_line plate cells after width pixels line kept rests left r closes =
      subst (λ n. DrawnRight m k n width pixels plate left r) kept (subst (λ p. DrawnRight m k (length after) width pixels p left r) rests closes)

  module _ (sound : Sound m) (law : Lawful k) (width : ℕ) (pixels : List Wanted) (line : OpenLine C) (cells : List (Cell C)) (full : Full m k width pixels line cells)
      (codes preview : List ℕ) (codes_long : length codes ≡ width) (preview_long : length preview ≡ width) where
    reversed_long : length (reverse pixels) ≡ width
    reversed_long = length-reverse pixels ∙ full.long

    -- a full line is never refused
    ready : close_check m k line cells codes preview ≡ None
    ready =
        let passed = start_passed m (length cells) line.plate.lines width full.starts in
        close_check_is m k width (reverse pixels) line cells full.drawn sound law codes preview
        ∙ ap (λ n. ready_check m (length cells) width n (length preview) (length (reverse pixels))) codes_long
        ∙ ap (λ n. ready_check m (length cells) width width n (length (reverse pixels))) preview_long
        ∙ ap (ready_check m (length cells) width width width) reversed_long
        ∙ ready_is m (length cells) width width width passed.2 passed.1 ∙ not_short width

    pub never_refused : (back : OpenLine C) (fault : Fault) → ◌≡◌ {A = Result (Plate C × C) (OpenLine C × Fault)} (Err (back, fault)) (closing m k line cells codes preview) → ⊥
    never_refused back fault e =
        let said = (refused_back (close_check m k line cells codes preview) _ line back fault e).0 in true≢false (cc (sym said ∙ ready))

    pub close_draws : (plate : Plate C) (cost : C) → ◌≡◌ {A = Result (Plate C × C) (OpenLine C × Fault)} (Ok (plate, cost)) (closing m k line cells codes preview) →
        (cs ps : List ℕ) → cs ≡ closed_codes m k line cells codes preview → ps ≡ closed_preview m k line cells codes preview → length cs ≡ width → length ps ≡ width →
        Draws m k (length cells) width pixels line.plate plate (record { pixels = pixels; codes = cs; preview = ps; cost = cost })
    close_draws plate cost e cs ps cs_are ps_are cs_long ps_long =
        let t = taken_back {A = Plate C × C} (close_check m k line cells codes preview) _ (plate, cost) line e in
        let cost_is : cost ≡ line_cost m k line cells = ap (λ y. y.1) t.1 in
        let closed : Best m k (record { pixels = reverse (reverse pixels); codes = cs; preview = ps; cost = cost }) =
        closed_best m k width (reverse pixels) line cells full.drawn sound law codes preview ready cs ps cost (whole cs _ cs_long cs_are) (whole ps _ ps_long ps_are) cost_is in
        let best : Best m k (record { pixels = pixels; codes = cs; preview = ps; cost = cost }) =
        subst (λ ws. Best m k (record { pixels = ws; codes = cs; preview = ps; cost = cost })) (reverse-reverse pixels) closed in
        record {
          drawn =
              ap (λ ch. answer (and_then ch (blocked m k [] pixels)) (picked_line m k pixels)) full.starts
              ∙ ap (λ ch. answer ch (picked_line m k pixels)) full.passes
              ∙ ap Ok (sym (best_is_picked m k (record { pixels = pixels; codes = cs; preview = ps; cost = cost }) best));
          best = best;
          counted =
              ap (λ y. y.0) t.1
              ∙ ap (λ n. record { lines = n; total = k.join line.plate.total (line_cost m k line cells) }) (one_more line.plate.lines (start_passed m (length cells) line.plate.lines width full.starts).0)
              ∙ ap (λ x. record { lines = line.plate.lines + 1; total = k.join line.plate.total x }) (sym cost_is);
        }
      where
        whole : (xs ys : List ℕ) → length xs ≡ width → xs ≡ ys → xs ≡ take (length (reverse pixels)) ys
        whole xs ys long are = sym (take_all (length (reverse pixels)) xs (omega (arith, reversed_long))) ∙ ap (take (length (reverse pixels))) are

        one_more : (l : ℕ) → l < 1024 → min (l + 1) 65535 ≡ l + 1
        one_more l h = omega arith
