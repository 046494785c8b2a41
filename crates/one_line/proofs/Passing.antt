-- Pixels of which none is refused have a way along them, so the line drawn is the best.
use Rattle.std.proofs.Common.{◌≡◌, ℕ, cond, List, [], ◌∷◌, ◌++◌, reverse, length, Some, None, Ok, unwrap_or, sym, ap, ◌∙◌, subst, append_assoc}
use mathlib.Core.List.{reverse-append, reverse-reverse}
use Rattle.std.proofs.lemmas.List.{append-nil}
use Rattle.cost.specs.Kind.{Kind, Lawful}
use Rattle.display.specs.Colours.{levels_of}
use Rattle.display.specs.Machine.{Meaning, Lawful as Sound}
use Rattle.lines.specs.Checks.{and_then}
use Rattle.lines.specs.Lines.{preview_of}
use Rattle.lines.specs.declared.fault.Fault.TheVariants.{NoWay}
use Rattle.trellis.specs.Calls.{start_check, unknown_pin}
use Rattle.trellis.specs.Stages.{stage}
use Rattle.trellis.proofs.Checking.{told, told_result, passed_both}
use Rattle.viterbi.specs.Columns.{at, last_column, passable, traced_codes}
use Rattle.viterbi.specs.Ways.{begin}
use Rattle.viterbi.proofs.Lines.{passable_way}
use Rattle.run.specs.Account.{Wanted, ClosedLine}
use Rattle.run.specs.Rivals.{stages, Best}
use Rattle.run.proofs.Bridge.{Along, within, closes_best}
use Rattle.run.proofs.Opened.{can_pass}
use Rattle.one_line.specs.Drawing.{blocked, picked_end, picked_line, drawn_line}

pub reverse-push : {X : Type 0} (xs : List X) (x : X) → reverse (xs ++ x ∷ []) ≡ x ∷ reverse xs
reverse-push xs x = reverse-append xs (x ∷ [])

module _ {C : Type 0} (m : Meaning) (k : Kind C) where
  -- the best line is the one picked
  pub best_is_picked : (line : ClosedLine C) → Best m k line → line ≡ picked_line m k line.pixels
  best_is_picked line best =
      let qs = stages m k line.pixels in
      let end : best.picked.state ≡ picked_end m k line.pixels = sym (ap (λ o. unwrap_or o 0) best.picked.picks) in
      let codes : line.codes ≡ (picked_line m k line.pixels).codes =
      best.picked.codes ∙ ap (λ s. reverse (traced_codes k m.states m.codes m.start qs s)) end in
      let preview : line.preview ≡ (picked_line m k line.pixels).preview = best.shows ∙ ap (preview_of m) codes in
      let cost : line.cost ≡ (picked_line m k line.pixels).cost =
      best.picked.cost ∙ ap (λ s. (at k (last_column k m.states m.codes m.start qs) s).cost) end in
      ap (λ cs. record { pixels = line.pixels; codes = cs; preview = line.preview; cost = line.cost }) codes
      ∙ ap (λ ps. record { pixels = line.pixels; codes = (picked_line m k line.pixels).codes; preview = ps; cost = line.cost }) preview
      ∙ ap (λ x. record { pixels = line.pixels; codes = (picked_line m k line.pixels).codes; preview = (picked_line m k line.pixels).preview; cost = x }) cost

  module _ (sound : Sound m) (law : Lawful k) where
    passed_way : (before rest : List Wanted) → (t : ℕ) × Along m k (reverse before) t → blocked m k before rest ≡ None → (t : ℕ) × Along m k (reverse (before ++ rest)) t
    passed_way before [] way e = subst (λ ps. (t : ℕ) × Along m k (reverse ps) t) (sym (append-nil before)) way
    passed_way before (p ∷ rest) way e =
        let q = stage m k (levels_of p.target) p.pin in
        let known = passed_both (unknown_pin m.codes p.pin (length before)) _ e in
        let parts = passed_both (cond (passable k m.states m.codes (last_column k m.states m.codes m.start (stages m k before)) q) None (Some (NoWay (length before)))) _ known.1 in
        let on = (passable_way k law m.states m.codes m.start sound.start_below (stages m k before) (within m k sound (reverse before)) q).0 (can_pass _ (length before) parts.0) in
        subst (λ ps. (t : ℕ) × Along m k (reverse ps) t) (append_assoc before (p ∷ []) rest)
        (passed_way (before ++ p ∷ []) rest (subst (λ ps. (t : ℕ) × Along m k ps t) (sym (reverse-push before p)) on) parts.1)

    pub drawn_best : (cells lines width : ℕ) (pixels : List Wanted) (line : ClosedLine C) → drawn_line m k cells lines width pixels ≡ Ok line → Best m k line
    drawn_best cells lines width pixels line e =
        let check = and_then (start_check m cells lines width) (blocked m k [] pixels) in
        let passes = (passed_both (start_check m cells lines width) _ (told None check (picked_line m k pixels) line (sym e))).1 in
        let way = passed_way [] pixels (m.start, begin) passes in
        let (b, picks, reached, best) = closes_best m k sound law (reverse pixels) way.0 way.1 in
        subst (Best m k) (best_is_picked _ best ∙ ap (picked_line m k) (reverse-reverse pixels) ∙ sym (told_result check (picked_line m k pixels) line (sym e))) best
