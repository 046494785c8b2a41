use Rattle.std.proofs.Common.{decimal, arith, rules}
use Rattle.lines.specs.Texts.{codes_text}
use Rattle.lines.proofs.Written.{spaced_more}
use Rattle.lines.proofs.texts.CodesDisplay.fmt.Goals as goal

pub loop-code-init : goal.loop-code-init
unfolding codes_text
loop-code-init g c = search rules

pub loop-code-preserved : goal.loop-code-preserved
unfolding codes_text
loop-code-preserved g c plain =
    spaced_more _ decimal c.args.self.now.0.now c.loop-code.code-index (omega arith) (c.loop-code.invariant plain) (search rules)
