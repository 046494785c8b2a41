-- Costs of equal counts are equal, whatever shows that their counts are small.
use Rattle.std.specs.Prelude.{◌≡◌, ◌≤◌}
use mathlib.Core.HLevel.{is_prop→PathP}
use Rattle.std.proofs.Math.Bridge.{le_prop}
use Rattle.cost.specs.Kinds.{top}
use Rattle.run_tests.specs.declared.misses.Misses.{Misses}

pub same_misses : {x y : Misses} → x.pixels ≡ y.pixels → x ≡ y
same_misses {x} {y} e = λ i. record { pixels = e i; bounded = is_prop→PathP (λ j. e j ≤ top) (λ j. le_prop) x.bounded y.bounded i }
