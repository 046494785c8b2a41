use Rattle.std.proofs.Common.{refl, rules}
use Rattle.viterbi.specs.Columns.{cheaper, pick}
use Rattle.trellis.proofs.Ranges.{fold_in_range}
use Rattle.trellis.proofs.trace.Columns.pick.Goals as goal

pub returns : goal.returns
returns g c =
    let k = g.C.Cost.kind in
    let column = c.column-column.result.now in
    let along = fold_in_range c.states.result _ (cheaper k column) (pick k column) (λ n. refl) _ c.fold.ensures.ran (λ kept s next q call. search rules) in
    cc
