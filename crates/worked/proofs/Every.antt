-- What holds of every code, by a test of each.
use Rattle.std.proofs.Common.{◌≡◌, ℕ, zero, suc, ◌<◌, ◌≤◌, Bool, true, ◌&&◌, leb, unwrap_or, refl, inl, inr, arith}
use Rattle.std.proofs.lemmas.Bool.{cases_lt, leb-true}
use Rattle.std.proofs.lemmas.Bool.Decides.{Decides-below_and}
use Rattle.display.specs.Colours.{error_of}
use Rattle.display.specs.Machine.{Meaning, Lawful, Steps}
use Rattle.display.specs.declared.colour.Levels.{Levels}

abbrev pub every : (ℕ → Bool) → ℕ → Bool
every test zero = true
every test (suc n) = test n && every test n

pub every_below : (test : ℕ → Bool) (n k : ℕ) → every test n ≡ true → k < n → test k ≡ true
every_below test n k e = (Decides-below_and test (λ c. test c ≡ true) (every test) (λ c. (λ h. h, λ h. h)) refl (λ c. refl) n).0 e k

-- from state s the code leads no nearer than that
abbrev pub no_nearer : Meaning → ℕ → Levels → ℕ → ℕ → Bool
no_nearer m s wanted least c = leb least (error_of wanted (m.shown (unwrap_or (m.step s c) s)))

pub none_nearer : (m : Meaning) → Lawful m → (s : ℕ) (wanted : Levels) (least : ℕ) →
    every (no_nearer m s wanted least) m.codes ≡ true → (c t : ℕ) → Steps m s c t → least ≤ error_of wanted (m.shown t)
none_nearer m sound s wanted least test c t steps =
    elim (cases_lt c m.codes) [
      | inl l ↦ (let b = every_below (no_nearer m s wanted least) m.codes c test l in leb-true _ _ (rw steps at b))
      | inr l ↦ (let none = sound.no_such_code s c l in let z : ◌≡◌ {A = ℕ} 0 1 = cc in absurd (omega arith))
    ]
