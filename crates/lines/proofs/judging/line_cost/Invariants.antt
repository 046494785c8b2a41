use Rattle.std.proofs.Common.{◌≡◌, map}
use Rattle.std.specs.Iterator.Adapters.{zip_first, zip_second}
use Rattle.std.specs.Slice.Iter.{iter_rest}
use Rattle.display.specs.Colours.{target_by}
use Rattle.lines.specs.Lines.{cost_of, cost_from}
use Rattle.lines.proofs.judging.line_cost.Given as goal

abbrev pub invariant-loop-code : goal.invariant-loop-code
invariant-loop-code g l =
    let m = g.M.DisplayMachine.meaning l.machine in
    let k = g.C.Cost.kind in
    cost_of m k l.codes (map target_by l.targets)
    ≡ cost_from m k l.sum l.state (iter_rest (zip_first l.code-iterator)) (map target_by (iter_rest (zip_second l.code-iterator)))
