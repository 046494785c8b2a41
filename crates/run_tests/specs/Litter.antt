-- A cell as an earlier use could have left it.
use Rattle.std.specs.Prelude.{true}
use Rattle.cost.specs.Kind.{Kind}
use Rattle.viterbi.specs.declared.Cell.{Cell}

-- it says that it is reached, at no cost, by a step with code 1 from state 1
abbrev pub litter : {C : Type 0} → Kind C → Cell C
litter k = record { cost = k.zero; prev = 1; code = 1; reached = true }
