use Rattle.std.proofs.Common.{rules}
use Rattle.lines.proofs.Targets.{targets_by_chunks}
use Rattle.lines.proofs.judging.judge.Goals as goal

pub returns : goal.returns
returns g c = let e = targets_by_chunks c.args.targets.now in search rules
