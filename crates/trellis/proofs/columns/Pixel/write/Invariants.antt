use Rattle.std.proofs.Common.{◌≡◌}
use Rattle.trellis.specs.Stages.{stage}
use Rattle.trellis.proofs.Bidding.{standing}
use Rattle.trellis.proofs.columns.Pixel.write.Given as goal

abbrev pub invariant-loop-s : goal.invariant-loop-s
invariant-loop-s g l =
    let m = g.M.DisplayMachine.meaning l.self.machine.now in
    let k = g.C.Cost.kind in
    l.next ≡ standing k m.states m.codes l.column (stage m k l.self.wanted l.self.pin) l.s
