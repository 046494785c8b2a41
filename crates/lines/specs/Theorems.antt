-- The checks on codes, in words.
use Rattle.std.specs.Prelude.{◌≡◌, ℕ, suc, ◌<◌, ◌≤◌, ◌⊎◌, List, length, take, Some, None, slice_index}
use Rattle.std.specs.List.{AllByRecursion}
use Rattle.display.specs.Machine.{Meaning}
use Rattle.lines.specs.declared.fault.Fault.TheVariants.{UnknownCode, NoStep}
use Rattle.lines.specs.Lines.{Legal, preview_of}
use Rattle.lines.specs.Checks.{unknown_code, no_step}

-- place i has the first code past the machine's codes
pub record FirstUnknown (m : Meaning) (codes : List ℕ) (i : ℕ) : Type 0 where
  pub place : i < length codes
  pub here : m.codes ≤ slice_index codes i
  pub known : AllByRecursion (λ c. c < m.codes) (take i codes)

-- the line is legal up to place i, and not with the code there
pub record FirstStuck (m : Meaning) (codes : List ℕ) (i : ℕ) : Type 0 where
  pub place : i < length codes
  pub legal : Legal m (take i codes)
  pub here : Legal m (take (suc i) codes) → ⊥

pub record ChecksTheorem (m : Meaning) (codes : List ℕ) : Type 0 where
  -- every code is known, or the first that is not is named
  pub unknown : ((unknown_code m codes ≡ None) × AllByRecursion (λ c. c < m.codes) codes)
      ⊎ ((i : ℕ) × (unknown_code m codes ≡ Some (UnknownCode i)) × FirstUnknown m codes i)
  -- the line is legal, or the first code that has no next state is named
  pub stuck : ((no_step m codes ≡ None) × Legal m codes) ⊎ ((i : ℕ) × (no_step m codes ≡ Some (NoStep i)) × FirstStuck m codes i)
  -- a preview has a colour for each code
  pub colours : length (preview_of m codes) ≡ length codes
