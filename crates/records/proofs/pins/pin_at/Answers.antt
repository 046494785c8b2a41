use Rattle.std.proofs.Common.{get_or, nat_eq, ◌∙◌, rules}
use borrow.Author.Tests.{tests}
use Rattle.std.proofs.lemmas.Iterator.{YieldsList-from_slice}
use Rattle.std.proofs.lemmas.Iterator.Search.{find_from_yields_List}
use Rattle.records.proofs.Pinning.{mapped, pin_read, place_by}
use Rattle.records.proofs.pins.pin_at.Goals as goal

pub returns : goal.returns
returns c =
    let chunks = c.as_chunks.result.0.now in
    mapped c.find.result c.map.result (λ chunk. get_or chunk.now 2 0) _ c.map.ensures.cases (λ x y k. search rules)
    ∙ pin_read c.args.place c.args.pins.now chunks c.find.result c.as_chunks.ensures.front
    (find_from_yields_List (λ chunk. nat_eq (place_by chunk) c.args.place) _ _ c.find.result c.find.ensures.ran (YieldsList-from_slice chunks (cc)) (λ x b q k. search (rules, tests)))
