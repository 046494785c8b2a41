use Rattle.run.proofs.Answering.{starts}
use Rattle.run.proofs.step.start_line.Goals as goal

pub returns-in-Ok : goal.returns-in-Ok
returns-in-Ok g c =
    starts (g.M.DisplayMachine.meaning c.args.machine.now) g.C.Cost.kind (g.met.M.DisplayMachine.lawful c.args.machine.now) g.met.C.Cost.lawful
    c.args.plate c.args.cells.now c.start.new.cells c.args.width c.in-Ok.line c.in-Ok.ensures.value c.in-Ok.ensures.cells
