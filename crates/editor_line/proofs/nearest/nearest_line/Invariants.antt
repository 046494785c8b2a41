use Rattle.std.proofs.Common.{vec_items}
use Rattle.lines.specs.Lines.{targets_of}
use Rattle.editor_line.proofs.Search.{Goes}
use Rattle.editor_line.proofs.nearest.nearest_line.Given as goal

abbrev pub invariant-loop-bytes : goal.invariant-loop-bytes
invariant-loop-bytes g l = Goes (g.M.DisplayMachine.meaning l.machine) (targets_of l.targets) (vec_items l.codes) l.state l.bytes-index
