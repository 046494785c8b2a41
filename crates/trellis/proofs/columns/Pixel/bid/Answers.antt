use Rattle.std.proofs.Common.{refl, ap, ◌∙◌, add-one}
use Rattle.trellis.specs.Bids.{indexed}
use Rattle.trellis.proofs.Bidding.{pinned_bids}
use Rattle.trellis.proofs.Indexing.{indexed-none, indexed-indexed}
use Rattle.trellis.proofs.columns.Pixel.bid.Goals as goal

pub returns-in-Some : goal.returns-in-Some
returns-in-Some g c =
    c.bid_code.ensures
    ∙ pinned_bids _ (g.met.M.DisplayMachine.lawful c.args.self.now.machine.now) c.args.self.now.pin c.in-Some.code c.in-Some.is c.args.s g.C.Cost.kind c.args.cost c.args.self.now.wanted c.args.next.now

pub loop-code-init : goal.loop-code-init
loop-code-init g c = indexed-none _ (λ t x. refl) _

pub loop-code-preserved : goal.loop-code-preserved
loop-code-preserved g c = rw add-one (c.bid_code-in-loop-code.ensures ∙ ap (indexed _) c.loop-code.invariant ∙ indexed-indexed _ _ c.args.next.now)
