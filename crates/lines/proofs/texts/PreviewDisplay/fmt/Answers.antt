use Rattle.std.proofs.Common.{arith, rules}
use Rattle.display.specs.Texts.{colour_text}
use Rattle.lines.specs.Texts.{preview_text}
use Rattle.lines.proofs.Written.{spaced_more}
use Rattle.lines.proofs.texts.PreviewDisplay.fmt.Goals as goal

pub loop-colour-init : goal.loop-colour-init
unfolding preview_text
loop-colour-init g c = search rules

pub loop-colour-preserved : goal.loop-colour-preserved
unfolding preview_text
loop-colour-preserved g c plain =
    spaced_more _ (λ n. colour_text (record { 0 = n })) c.args.self.now.0.now c.loop-colour.colour-index (omega arith) (c.loop-colour.invariant plain) (search rules)
