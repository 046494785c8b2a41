use Rattle.std.proofs.Common.{rules}
use Rattle.records.proofs.Wording.{words_made}
use Rattle.records.proofs.palette.palette_words.Goals as goal

pub returns : goal.returns
returns g c =
    words_made _ _ c.as_chunks.result.0.now (λ k y q h. search rules) c.from_fn.result c.args.body.now g.row.N c.requires c.as_chunks.ensures.front c.as_chunks.ensures.front_len c.from_fn.ensures.items
