-- The costs of a code line by each kind, and their text.
use Rattle.std.specs.Prelude.{ℕ, List, ◌++◌, codes}
use Rattle.cost.specs.Kinds.{summed, worst, pair}
use Rattle.cost.specs.Texts.{summed_text, worst_text, pair_text}
use Rattle.display.specs.Machine.{Meaning}
use Rattle.lines.specs.Lines.{cost_of, targets_of}
use Rattle.editor_line.specs.declared.costs.Costs.{Costs}

abbrev pub all_costs : Meaning → List ℕ → List ℕ → Costs
all_costs m line bytes = record {
  summed = cost_of m summed line (targets_of bytes);
  worst = cost_of m worst line (targets_of bytes);
  pair = cost_of m pair line (targets_of bytes);
}

abbrev pub costs_text : Costs → List ℕ
costs_text costs =
    codes "cost summed "
    ++ (summed_text costs.summed ++ (codes " worst " ++ (worst_text costs.worst ++ (codes " pair " ++ pair_text costs.pair))))
