use Rattle.std.proofs.Common.{replicate, ap, ◌∙◌, rules}
use Rattle.viterbi.specs.Columns.{blank}
use Rattle.trellis.proofs.Writing.{all_made}
use Rattle.trellis.proofs.columns.clear.Goals as goal

pub returns : goal.returns
returns g c =
    let b = blank g.C.Cost.kind in
    all_made _ b _ (λ x q k. search rules) _ _ c.fill_with.ensures.ran.1 ∙ ap (λ n. replicate n b) c.fill_with.ensures.len
