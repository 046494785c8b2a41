-- The first place at which a check on codes finds a fault.
use Rattle.std.proofs.Common.{◌≡◌, ℕ, suc, ◌+◌, ◌<◌, ◌≤◌, ◌⊎◌, List, [], ◌∷◌, length, get_or, take, is_some, Some, None, refl, ap, ◌∙◌, inl, inr, arith}
use Rattle.std.specs.List.{AllByRecursion}
use Rattle.std.proofs.lemmas.Bool.{cases_Bool, cases_lt, le-leb, lt-leb, both_ways}
use Rattle.display.specs.Machine.{Meaning}
use Rattle.lines.specs.declared.fault.Fault.TheVariants.{UnknownCode, NoStep}
use Rattle.lines.specs.Lines.{LegalFrom, after_code}
use Rattle.lines.specs.Checks.{unknown_from, stuck_from}

further : (n i : ℕ) → n + 1 + i ≡ n + suc i
further n i = omega arith

pub unknown_place : (K n : ℕ) (cs : List ℕ) →
    ((unknown_from K n cs ≡ None) × AllByRecursion (λ c. c < K) cs)
    ⊎ ((i : ℕ) × (unknown_from K n cs ≡ Some (UnknownCode (n + i))) × (i < length cs) × (K ≤ get_or cs i 0) × AllByRecursion (λ c. c < K) (take i cs))
unknown_place K n [] = inl (refl, tt)
unknown_place K n (c ∷ cs) =
    elim (cases_lt c K) [
      | inl h ↦ elim (unknown_place K (n + 1) cs) [
        | inl r ↦ inl (rw (lt-leb K c h) r.0, (h, r.1))
        | inr r ↦ inr (suc r.0, rw (lt-leb K c h) (r.1 ∙ ap (λ j. Some (UnknownCode j)) (further n r.0)), omega (arith, r.2), r.3, (h, r.4))
      ]
      | inr h ↦ inr (0, rw (le-leb K c h) (ap (λ j. Some (UnknownCode j)) (omega arith)), omega arith, h, tt)
    ]

pub stuck_place : (m : Meaning) (s n : ℕ) (cs : List ℕ) →
    ((stuck_from m s n cs ≡ None) × LegalFrom m s cs)
    ⊎ ((i : ℕ) × (stuck_from m s n cs ≡ Some (NoStep (n + i))) × (i < length cs) × LegalFrom m s (take i cs) × (LegalFrom m s (take (suc i) cs) → ⊥))
stuck_place m s n [] = inl (refl, tt)
stuck_place m s n (c ∷ cs) =
    elim (cases_Bool (is_some (m.step s c))) [
      | inl h ↦ elim (stuck_place m (after_code m s c) (n + 1) cs) [
        | inl r ↦ inl (rw h r.0, (h, r.1))
        | inr r ↦ inr (suc r.0, rw h (r.1 ∙ ap (λ j. Some (NoStep j)) (further n r.0)), omega (arith, r.2), (h, r.3), λ l. r.4 l.1)
      ]
      | inr h ↦ inr (0, rw h (ap (λ j. Some (NoStep j)) (omega arith)), omega arith, tt, λ l. both_ways (is_some (m.step s c)) h l.0)
    ]
