use Rattle.std.proofs.Common.{◌∙◌}
use Rattle.trellis.specs.Stages.{stage}
use Rattle.trellis.proofs.Extending.{no_states, one_reached, one_unreached}
use Rattle.trellis.proofs.columns.Pixel.write.Goals as goal
use Rattle.trellis.proofs.columns.Pixel.write.Goals.{then-cell, else-cell}

pub loop-s-init : goal.loop-s-init
loop-s-init g c =
    let m = g.M.DisplayMachine.meaning c.args.self.now.machine.now in
    let k = g.C.Cost.kind in
    no_states k m.states m.codes c.args.column.now (stage m k c.args.self.now.wanted c.args.self.now.pin) c.clear.new.column _ c.clear.ensures c.requires.to

pub loop-s-preserved : goal.loop-s-preserved
loop-s-preserved g c =
    let m = g.M.DisplayMachine.meaning c.args.self.now.machine.now in
    let k = g.C.Cost.kind in
    let p = stage m k c.args.self.now.wanted c.args.self.now.pin in
    let column = c.args.column.now in
    let loop = c.loop-s in
    let cell = c.index-column-s in
    elim c.if-cell.branch [
      | then-cell w ↦ w.next-is ∙ one_reached k m.states m.codes column p loop.s cell.result c.loop-s-test.true cell.is loop.next loop.invariant w.bid.new.next w.if-cell.true w.bid.ensures
      | else-cell w ↦ w.next-is ∙ one_unreached k m.states m.codes column p loop.s cell.result c.loop-s-test.true cell.is loop.next loop.invariant w.if-cell.false
    ]
