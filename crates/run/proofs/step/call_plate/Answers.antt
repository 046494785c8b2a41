use Rattle.run.proofs.Answering.{reports}
use Rattle.run.proofs.step.call_plate.Goals as goal

pub returns-in-Report : goal.returns-in-Report
returns-in-Report g c =
    rw c.in-Report.is (reports (g.M.DisplayMachine.meaning c.args.machine.now) g.C.Cost.kind (g.met.M.DisplayMachine.lawful c.args.machine.now) g.met.C.Cost.lawful
    c.args.plate c.args.cells.now c.args.cells.now c.report-report.result c.report-report.ensures)
