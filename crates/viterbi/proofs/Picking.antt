-- The pick is the cheapest reached state, the lowest at a tie.
use Rattle.std.proofs.Common.{◌≡◌, ℕ, zero, suc, ◌<◌, true, false, not, ◌&&◌, List, Some, None, Option, ⊎_elim, arith, MatchOption}
use Rattle.std.proofs.lemmas.Option.{MatchOption-at_some, MatchOption-at_none}
use Rattle.std.proofs.lemmas.Bool.{cond_both, and_parts, and_cases, both_ways, not-true, not-false, cases_eq, cases_Bool}
use Rattle.cost.specs.Kind.{Kind, Lawful, AtMost}
use Rattle.viterbi.specs.declared.Cell.{Cell}
use Rattle.viterbi.specs.Columns.{at, cheaper, pick, Picked}
use Rattle.viterbi.proofs.Survivor.{reflexive}

-- what holds below n, and at n, holds below n + 1
up_to : (P : ℕ → Type 0) (n : ℕ) → ((s : ℕ) → s < n → P s) → P n → (s : ℕ) → s < suc n → P s
up_to P n below here s h = ⊎_elim (λ e. rw e here) (λ e. below s (omega arith)) (cases_eq s n)

module _ {C : Type 0} (k : Kind C) (law : Lawful k) (column : List (Cell C)) where
  -- what a pick from the states below n tells
  abbrev Told : ℕ → Option ℕ → Type 0
  Told n o = MatchOption o ((s : ℕ) → s < n → (at k column s).reached ≡ false) (Picked k column n)

  -- s is not reached, or costs no less than b
  abbrev NotCheaper : ℕ → ℕ → Type 0
  NotCheaper b s = (at k column s).reached ≡ true → AtMost k (at k column b).cost (at k column s).cost

  -- state n is picked if it is cheaper, and otherwise leaves the pick
  told_more : (n : ℕ) (o : Option ℕ) → Told n o → Told (suc n) (cheaper k column o n)
  told_more n None none =
      cond_both (at k column n).reached (Some n) None (Told (suc n))
      (λ r. record {
        state = omega arith;
        stands = r;
        least = up_to (NotCheaper n) n (λ s h q. absurd (both_ways _ (none s h) q)) (λ q. reflexive k law _);
        lowest = λ s h q. absurd (both_ways _ (none s h) q);
      })
      (λ r. up_to (λ s. (at k column s).reached ≡ false) n none r)
  told_more n (Some b) w =
      cond_both ((at k column n).reached && not (k.at_most (at k column b).cost (at k column n).cost)) (Some n) (Some b) (Told (suc n))
      (λ e.
      let m = and_parts _ _ e in
      let over = not-true _ m.1 in
      record {
        state = omega arith;
        stands = m.0;
        least = up_to (NotCheaper n) n (λ s h q. law.transitive _ _ _ (law.total _ _ over) (w.least s h q)) (λ q. reflexive k law _);
        lowest = λ s h q. ⊎_elim (λ l. absurd (both_ways _ over (law.transitive _ _ _ (w.least s h q) l))) (λ l. l) (cases_Bool _);
      })
      (λ e. record {
        state = omega arith;
        stands = w.stands;
        least = up_to (NotCheaper b) n w.least (λ q. ⊎_elim (λ f. absurd (both_ways _ f q)) (not-false _) (and_cases _ _ e));
        lowest = w.lowest;
      })

  told : (n : ℕ) → Told n (pick k column n)
  told zero = λ s h. absurd (omega arith)
  told (suc n) = told_more n (pick k column n) (told n)

  -- a pick, and no pick
  pub pick_picked : (n b : ℕ) → pick k column n ≡ Some b → Picked k column n b
  pick_picked n b e = MatchOption-at_some _ _ b e (told n)

  pub pick_none : (n : ℕ) → pick k column n ≡ None → (s : ℕ) → s < n → (at k column s).reached ≡ false
  pick_none n e = MatchOption-at_none _ (Picked k column n) e (told n)
