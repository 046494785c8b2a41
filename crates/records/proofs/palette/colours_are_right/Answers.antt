use Rattle.std.proofs.Common.{nat_le, ◌∙◌, rules}
use borrow.Author.Tests.{tests}
use Rattle.std.proofs.lemmas.Iterator.{YieldsList-from_slice}
use Rattle.std.proofs.lemmas.Iterator.Search.{all_from_yields_List}
use Rattle.records.proofs.Wording.{word_of, colours_each}
use Rattle.records.proofs.palette.colours_are_right.Goals as goal

pub returns : goal.returns
returns c =
    all_from_yields_List (λ chunk. nat_le (word_of chunk) 4095) _ _ _ c.all.ensures.ran (YieldsList-from_slice c.as_chunks.result.0.now (cc)) (λ x b q k. search (rules, tests))
    ∙ colours_each c.args.body.now c.as_chunks.result.0.now c.as_chunks.ensures.front
