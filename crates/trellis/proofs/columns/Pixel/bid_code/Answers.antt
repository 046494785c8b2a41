use Rattle.std.proofs.Common.{set, None, Some, sym, ap, ◌∙◌}
use Rattle.trellis.specs.Stages.{stage}
use Rattle.trellis.proofs.Indexing.{indexed-none}
use Rattle.trellis.proofs.Bidding.{no_bid, one_bid}
use Rattle.trellis.proofs.columns.Pixel.bid_code.Goals as goal

pub returns-in_default : goal.returns-in_default
returns-in_default g c =
    indexed-none _
    (no_bid g.C.Cost.kind c.args.cost (stage (g.M.DisplayMachine.meaning c.args.self.now.machine.now) g.C.Cost.kind c.args.self.now.wanted None) c.args.s c.args.code
    (sym c.step.ensures.value ∙ c.in_default.is))
    c.args.next.now

pub returns : goal.returns
returns g c =
    let p = stage (g.M.DisplayMachine.meaning c.args.self.now.machine.now) g.C.Cost.kind c.args.self.now.wanted None in
    let t = sym c.from.ensures in
    ap (set c.args.next.now c.from.result) c.settle.ensures
    ∙ one_bid g.C.Cost.kind c.args.cost p c.args.s c.args.code
    c.from.result c.join-bid.result (sym c.step.ensures.value ∙ c.in-Some.is ∙ ap Some t) (c.join-bid.ensures ∙ ap (g.C.Cost.kind.join c.args.cost) (c.pixel_price.ensures ∙ ap (p.price c.args.code) t))
    c.args.next.now c.index-next-from.result
