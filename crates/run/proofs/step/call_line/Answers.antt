use Rattle.std.proofs.Common.{None, Some, refl}
use Rattle.run.proofs.Answering.{adds, strikes}
use Rattle.run.proofs.step.call_line.Goals as goal

pub returns-in-Pixel : goal.returns-in-Pixel
returns-in-Pixel g c =
    rw c.in-Pixel.is (adds (g.M.DisplayMachine.meaning c.args.machine.now) g.C.Cost.kind (g.met.M.DisplayMachine.lawful c.args.machine.now) g.met.C.Cost.lawful
    c.args.line c.args.cells.now c.pixel-done.new.cells c.in-Pixel.target None c.pixel-done.new.self c.pixel-done.result c.plain_step.result
    c.pixel-done.ensures.line c.pixel-done.ensures.cells c.pixel-done.ensures.value c.plain_step.ensures)

pub returns-in-Pin : goal.returns-in-Pin
returns-in-Pin g c =
    rw c.in-Pin.is (adds (g.M.DisplayMachine.meaning c.args.machine.now) g.C.Cost.kind (g.met.M.DisplayMachine.lawful c.args.machine.now) g.met.C.Cost.lawful
    c.args.line c.args.cells.now c.pin-done.new.cells c.in-Pin.target (Some c.in-Pin.code) c.pin-done.new.self c.pin-done.result c.plain_step-in-Pin.result
    c.pin-done.ensures.line c.pin-done.ensures.cells c.pin-done.ensures.value c.plain_step-in-Pin.ensures)

pub returns-in-Back : goal.returns-in-Back
returns-in-Back g c =
    rw c.in-Back.is (strikes (g.M.DisplayMachine.meaning c.args.machine.now) g.C.Cost.kind (g.met.M.DisplayMachine.lawful c.args.machine.now) g.met.C.Cost.lawful
    c.args.line c.args.cells.now c.args.cells.now c.back-done.new.self c.back-done.result c.plain_step-in-Back.result
    c.back-done.ensures.line refl c.back-done.ensures.value c.plain_step-in-Back.ensures)
