-- Folds over the codes below a number, G n after the codes below n.
use Rattle.std.proofs.Common.{◌≡◌, ℕ, zero, suc, ◌<◌, ◌≤◌, ◌≢◌, sym, refl, ap, ◌∙◌, ⊎_elim, arith}
use Rattle.std.proofs.lemmas.Bool.{cases_eq, cases_lt}

module _ {X : Type 0} (turn : ℕ → X → X) (G : ℕ → X) (more : (n : ℕ) → G (suc n) ≡ turn n (G n)) where
  -- no code changes anything
  pub none_counts : (n : ℕ) → ((c : ℕ) → c < n → turn c (G c) ≡ G c) → G n ≡ G 0
  none_counts zero idle = refl
  none_counts (suc n) idle = more n ∙ idle n (omega arith) ∙ none_counts n (λ c h. idle c (omega arith))

  only_below : (n pin : ℕ) → ((c : ℕ) → c ≢ pin → turn c (G c) ≡ G c) → pin < n → G n ≡ turn pin (G 0)
  only_below zero pin idle h = absurd (omega arith)
  only_below (suc n) pin idle h =
      ⊎_elim
      (λ (e : pin ≡ n). more n ∙ ap (turn n) (none_counts n (λ c l. idle c (omega arith))) ∙ ap (λ c. turn c (G 0)) (sym e))
      (λ (ne : pin ≢ n). more n ∙ idle n (λ e. ne (sym e)) ∙ only_below n pin idle (omega arith))
      (cases_eq pin n)

  -- one code alone may change something, and it does not if it is past the others
  pub one_counts : (n pin : ℕ) → ((c : ℕ) → c ≢ pin → turn c (G c) ≡ G c) → (n ≤ pin → turn pin (G 0) ≡ G 0) → G n ≡ turn pin (G 0)
  one_counts n pin idle past =
      ⊎_elim (only_below n pin idle)
      (λ (h : n ≤ pin). none_counts n (λ c l. idle c (omega arith)) ∙ sym (past h))
      (cases_lt pin n)
