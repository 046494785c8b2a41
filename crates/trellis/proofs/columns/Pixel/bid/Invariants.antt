use Rattle.std.proofs.Common.{◌≡◌, None}
use Rattle.viterbi.specs.Columns.{tried_codes}
use Rattle.trellis.specs.Bids.{indexed, offer}
use Rattle.trellis.specs.Stages.{stage}
use Rattle.trellis.proofs.columns.Pixel.bid.Given as goal

abbrev pub invariant-loop-code : goal.invariant-loop-code
invariant-loop-code g l =
    let m = g.M.DisplayMachine.meaning l.self.machine.now in
    let k = g.C.Cost.kind in
    l.next ≡ indexed (λ t. tried_codes k l.s (offer k l.cost (stage m k l.self.wanted None) t l.s) l.code) l.initial.next
