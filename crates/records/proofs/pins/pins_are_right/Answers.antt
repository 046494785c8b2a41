use Rattle.std.proofs.Common.{arith, rules}
use borrow.Author.Tests.{tests}
use Rattle.std.proofs.lemmas.Fn.{always_returns_same}
use Rattle.records.proofs.Pinning.{pins_rise, stands_after}
use Rattle.records.proofs.pins.pins_are_right.Goals as goal

pub returns-then-place_of-width : goal.returns-then-place_of-width
returns-then-place_of-width c =
    pins_rise c.args.width c.args.pins.now c.as_chunks.result.0.now c.is_sorted_by.result c.as_chunks.ensures.front
    (c.is_sorted_by.ensures.cases (stands_after c.args.width) (always_returns_same _ _ _ (λ a r q k. search (rules, tests))))
    c.in-len1-up.len_at_least (omega (arith, c.place_of.ensures, c.if-place_of-width.true))
