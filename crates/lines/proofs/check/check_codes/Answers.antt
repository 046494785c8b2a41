use Rattle.std.proofs.Common.{◌≡◌, leb, refl, sym, rules, tests}
use Rattle.std.proofs.lemmas.Iterator.{YieldsList-from_slice}
use Rattle.std.proofs.lemmas.Iterator.Search.{position_from_yields_List}
use Rattle.std.specs.List.{position}
use Rattle.lines.proofs.Walks.{unknown_position}
use Rattle.lines.proofs.check.check_codes.Goals as goal

pub returns-in-Some : goal.returns-in-Some
returns-in-Some g c =
    let m = g.M.DisplayMachine.meaning c.args.machine.now in
    let found : c.position.result ≡ position (λ code. leb c.codes-count.result code) c.args.codes.now =
    position_from_yields_List _ _ _ _ c.position.ensures.ran (YieldsList-from_slice c.args.codes.now cc) (λ x b q k. search (rules, tests))
    in
    rw (unknown_position m c.args.codes.now, sym c.codes-count.ensures, sym found, c.in-Some.is) refl

pub returns-in-None : goal.returns-in-None
returns-in-None g c =
    let m = g.M.DisplayMachine.meaning c.args.machine.now in
    let found : c.position.result ≡ position (λ code. leb c.codes-count.result code) c.args.codes.now =
    position_from_yields_List _ _ _ _ c.position.ensures.ran (YieldsList-from_slice c.args.codes.now cc) (λ x b q k. search (rules, tests))
    in
    rw (unknown_position m c.args.codes.now, sym c.codes-count.ensures, sym found, c.in-None.is) refl
