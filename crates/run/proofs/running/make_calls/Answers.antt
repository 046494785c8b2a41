use Rattle.std.proofs.Common.{length, vec_items, arith}
use Rattle.run.specs.declared.entry.Call.TheVariants.{Start}
use Rattle.run.proofs.Recording.{recorded_more, kept_all, kept_so_far}
use Rattle.run.proofs.running.make_calls.Goals as goal

pub returns-in-Err-NotFound : goal.returns-in-Err-NotFound
returns-in-Err-NotFound g c =
    kept_so_far (g.M.DisplayMachine.meaning c.args.machine.now) g.C.Cost.kind (length c.args.cells.now) c.args.calls.now
    c.loop-call.call-index (vec_items c.loop-call.entries) c.loop-call.state c.loop-call.cells c.loop-call.invariant
    (Start 0) c.make_call-next.new.cells c.make_call-next.result (omega arith) c.loop-call.auto.cells c.make_call-next.ensures
    c.in-Err-NotFound.field-0 c.in-Err-NotFound.is (rw c.in-Err-NotFound.is at c.in-Err-NotFound.field-0-is)

pub loop-call-preserved : goal.loop-call-preserved
loop-call-preserved g c =
    recorded_more (g.M.DisplayMachine.meaning c.args.machine.now) g.C.Cost.kind (length c.args.cells.now) c.args.calls.now
    c.loop-call.call-index (vec_items c.loop-call.entries) c.loop-call.state c.loop-call.cells c.loop-call.invariant
    (Start 0) c.make_call-next.new.cells c.make_call-next.result (omega arith) c.loop-call.auto.cells c.make_call-next.ensures
    c.in-Ok.answer (vec_items c.push.new.self) c.in-Ok.is c.in_default.ensures.items

pub returns : goal.returns
returns g c =
    kept_all (g.M.DisplayMachine.meaning c.args.machine.now) g.C.Cost.kind (length c.args.cells.now) c.args.calls.now
    c.loop-call.call-index (vec_items c.loop-call.entries) c.loop-call.state c.loop-call.cells c.loop-call.invariant (omega arith) (omega arith)
