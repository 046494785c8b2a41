-- Misses: each pixel with an error counts for one; the count stops at the greatest number of 32 bits.
use Rattle.std.specs.Prelude.{ℕ, ◌+◌, min, cond, ◌==◌, nat_le}
use Rattle.std.proofs.Math.Nat.{min-le_right}
use Rattle.cost.specs.Kind.{Kind}
use Rattle.cost.specs.Kinds.{top}
use Rattle.run_tests.specs.declared.misses.Misses.{Misses}

abbrev pub misses_of : ℕ → Misses
misses_of n = record { pixels = min n top; bounded = min-le_right n top }

abbrev pub misses : Kind Misses
misses = record {
  zero = misses_of 0;
  join = λ x y. misses_of (x.pixels + y.pixels);
  at_most = λ x y. nat_le x.pixels y.pixels;
  price = λ error holds. misses_of (cond (error == 0) 0 1);
}
