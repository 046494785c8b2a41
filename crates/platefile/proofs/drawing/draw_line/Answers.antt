use Rattle.std.proofs.Common.{◌/◌, length}
use Rattle.one_line.specs.Pixels.{pixels_of_line}
use Rattle.platefile.proofs.Closing.{whole_line}
use Rattle.platefile.proofs.drawing.draw_line.Goals as goal

pub returns-in-Ok : goal.returns-in-Ok
returns-in-Ok g c =
    let a = c.args in
    let filled = c.in-Ok.ensures in
    let pixels = pixels_of_line a.line.pins.now a.line.targets.now in
    whole_line (g.M.DisplayMachine.meaning a.machine.now) g.C.Cost.kind a.plate a.cells.now c.filled_line.new.cells (length a.line.targets.now / 3) pixels c.in-Ok.filled
    c.filled_line.auto.cells filled.0 c.close_line.result.0 c.close_line.result.1 (c.close_line.ensures pixels filled.1)
