use Rattle.std.proofs.Common.{arith, rules}
use borrow.Author.Tests.{tests}
use Rattle.std.proofs.lemmas.Iterator.{YieldsList-from_range}
use Rattle.std.proofs.lemmas.Iterator.Consumers.{YieldsList-from_filter_map}
use Rattle.editor_line.proofs.Picking.{choice_of, nearest_picked}
use Rattle.editor_line.proofs.nearest.nearest.Goals as goal

pub returns : goal.returns
returns g c =
    let m = g.M.DisplayMachine.meaning c.args.machine.now in
    let s = c.args.state in
    let wanted = c.args.wanted in
    nearest_picked _ _ (λ x k q h. search rules) m s wanted m.codes
    (YieldsList-from_filter_map _ (choice_of m s wanted) (YieldsList-from_range 0 m.codes m.codes (cc) (omega arith)) c.filter_map.ensures.closure (λ x r q k. search (rules, tests)))
    c.min_by_key.result c.min_by_key.ensures.ran
