use Rattle.std.proofs.Common.{length, vec_items}
use Rattle.run.proofs.Recording.{Recorded}
use Rattle.run.proofs.running.make_calls.Given as goal

abbrev pub invariant-loop-call : goal.invariant-loop-call
invariant-loop-call g l =
    Recorded (g.M.DisplayMachine.meaning l.machine) g.C.Cost.kind (length l.initial.cells) l.calls l.call-index (vec_items l.entries) l.state l.cells
