-- Costs of equal numbers are equal, whatever shows that their numbers are small.
use Rattle.std.specs.Prelude.{◌≡◌, ◌≤◌}
use mathlib.Core.HLevel.{is_prop→PathP}
use Rattle.std.proofs.Math.Bridge.{le_prop}
use Rattle.cost.specs.Kinds.{top}
use Rattle.cost.specs.declared.summed.Summed.{Summed}
use Rattle.cost.specs.declared.pair.Pair.{Pair}

pub same_summed : {x y : Summed} → x.error ≡ y.error → x ≡ y
same_summed {x} {y} e = λ i. record { error = e i; bounded = is_prop→PathP (λ j. e j ≤ top) (λ j. le_prop) x.bounded y.bounded i }

pub same_pair : {x y : Pair} → x.error ≡ y.error → x.count ≡ y.count → x ≡ y
same_pair {x} {y} e d = λ i. record {
  error = e i;
  count = d i;
  bounded = (
    is_prop→PathP (λ j. e j ≤ top) (λ j. le_prop) x.bounded.0 y.bounded.0 i,
    is_prop→PathP (λ j. d j ≤ top) (λ j. le_prop) x.bounded.1 y.bounded.1 i,
  );
}
