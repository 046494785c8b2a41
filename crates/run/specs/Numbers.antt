-- By which numbers the promise lets a pixel, a pin and a close be refused, for every machine and cost kind.
use Rattle.std.specs.Prelude.{◌≡◌, ◌≢◌, ℕ, List, None, Err, Result}
use Rattle.cost.specs.Kind.{Kind}
use Rattle.display.specs.Machine.{Meaning}
use Rattle.lines.specs.declared.fault.Fault.{Fault}
use Rattle.lines.specs.Faults.{number_of, place_of}
use Rattle.run.specs.declared.entry.Call.TheVariants.{Close}
use Rattle.run.specs.declared.entry.Answer.{Answer}
use Rattle.run.specs.Account.{Wanted, ClosedLine, drawing}
use Rattle.run.specs.Promise.{AddRight, RightAt}

-- refused by the fault of this number, at this place
abbrev pub RefusedBy : {C : Type 0} → ℕ → ℕ → Result (Answer C) Fault → Type 0
RefusedBy number place answer = (fault : Fault) × (answer ≡ Err fault) × (number_of fault ≡ number) × (place_of fault ≡ place)

pub record NumbersTheorem (C : Type 0) : Type 0 where
  -- a pixel or a pin that passes the earlier checks is refused by number 8 alone, at the number of pixels before it
  pub added : (m : Meaning) (k : Kind C) (pixels : List Wanted) (n : ℕ) (fault : Fault) →
      AddRight m k None pixels n (Err fault) → RefusedBy {C = C} 8 n (Err fault)
  -- no close is refused by number 11
  pub closed : (m : Meaning) (k : Kind C) (cells : ℕ) (lines : List (ClosedLine C)) (width : ℕ) (pixels : List Wanted) (codes preview : ℕ) (fault : Fault) →
      RightAt m k cells lines (drawing width pixels) (Close codes preview) (Err fault) → number_of fault ≢ 11
