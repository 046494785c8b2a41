-- The text of a cost.
use Rattle.std.specs.Prelude.{ℕ, List, ◌++◌, codes, decimal}
use Rattle.cost.specs.declared.summed.Summed.{Summed}
use Rattle.cost.specs.declared.worst.Worst.{Worst}
use Rattle.cost.specs.declared.pair.Pair.{Pair}

-- the error
abbrev pub summed_text : Summed → List ℕ
summed_text x = decimal x.error

abbrev pub worst_text : Worst → List ℕ
worst_text x = decimal x.error

-- the error, a stroke, and the count
abbrev pub pair_text : Pair → List ℕ
pair_text x = decimal x.error ++ (codes "/" ++ decimal x.count)
