-- A cost kind: its zero, the joining of two costs, its order, and the price of a pixel.
use Rattle.std.specs.Prelude.{◌≡◌, ℕ, Bool, true, false}

pub record Kind (C : Type 0) : Type 0 where
  pub zero : C
  pub join : C → C → C
  -- whether the first cost is at most the second
  pub at_most : C → C → Bool
  -- made of the pixel's error and of whether its code holds
  pub price : ℕ → Bool → C

-- x is at most y
abbrev pub AtMost : {C : Type 0} → Kind C → C → C → Type 0
AtMost k x y = k.at_most x y ≡ true

-- The laws of a cost kind, for all its costs.
pub record Lawful {C : Type 0} (k : Kind C) : Type 0 where
  pub total : (x y : C) → k.at_most x y ≡ false → AtMost k y x
  pub transitive : (x y z : C) → AtMost k x y → AtMost k y z → AtMost k x z
  pub antisymmetric : (x y : C) → AtMost k x y → AtMost k y x → x ≡ y
  pub associative : (x y z : C) → k.join (k.join x y) z ≡ k.join x (k.join y z)
  pub zero_left : (x : C) → k.join k.zero x ≡ x
  pub zero_right : (x : C) → k.join x k.zero ≡ x
  pub grows_left : (x y z : C) → AtMost k x y → AtMost k (k.join x z) (k.join y z)
  pub grows_right : (x y z : C) → AtMost k x y → AtMost k (k.join z x) (k.join z y)
