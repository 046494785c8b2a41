-- The three cost kinds. The greatest number of 32 bits is called top.
use Rattle.std.specs.Prelude.{ℕ, ◌+◌, min, max, cond, ◌&&◌, ◌||◌, ◌==◌, nat_le, nat_lt}
use Rattle.std.proofs.Math.Nat.{min-le_right}
use Rattle.cost.specs.Kind.{Kind}
use Rattle.cost.specs.declared.summed.Summed.{Summed}
use Rattle.cost.specs.declared.worst.Worst.{Worst}
use Rattle.cost.specs.declared.pair.Pair.{Pair}

abbrev pub top : ℕ
top = 4294967295

-- Summed: errors are added, and stop at top.
abbrev pub summed_of : ℕ → Summed
summed_of n = record { error = min n top; bounded = min-le_right n top }

abbrev pub summed : Kind Summed
summed = record {
  zero = summed_of 0;
  join = λ x y. summed_of (x.error + y.error);
  at_most = λ x y. nat_le x.error y.error;
  price = λ error holds. summed_of error;
}

-- Worst: the larger of two errors counts.
abbrev pub worst_of : ℕ → Worst
worst_of n = record { error = n }

abbrev pub worst : Kind Worst
worst = record {
  zero = worst_of 0;
  join = λ x y. worst_of (max x.error y.error);
  at_most = λ x y. nat_le x.error y.error;
  price = λ error holds. worst_of error;
}

-- Pair: errors added, and holding codes counted. Error decides the order, then count.
abbrev pub pair_of : ℕ → ℕ → Pair
pair_of error count = record { error = min error top; count = min count top; bounded = (min-le_right error top, min-le_right count top) }

-- both halves stop together: an exact error above top makes each of them top
abbrev pub joined_pair : Pair → Pair → Pair
joined_pair x y =
    pair_of (x.error + y.error) (cond (nat_le (x.error + y.error) top) (x.count + y.count) top)

abbrev pub pair : Kind Pair
pair = record {
  zero = pair_of 0 0;
  join = joined_pair;
  at_most = λ x y. nat_lt x.error y.error || (x.error == y.error && nat_le x.count y.count);
  price = λ error holds. pair_of error (cond holds 1 0);
}
