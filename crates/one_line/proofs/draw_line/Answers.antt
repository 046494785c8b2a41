use Rattle.std.proofs.Common.{length}
use Rattle.one_line.proofs.Whole.{fill_refuses, close_refuses, close_says}
use Rattle.one_line.proofs.draw_line.Goals as goal

pub returns-in-Err : goal.returns-in-Err
returns-in-Err g c =
    let a = c.args in
    fill_refuses (g.M.DisplayMachine.meaning a.machine.now) g.C.Cost.kind a.targets.now a.codes.now a.preview.now
    (length a.cells.now) c.new.result c.in-Err.plate c.in-Err.fault c.filled_line.new.cells c.new.ensures c.in-Err.ensures

pub returns-in-Ok-close : goal.returns-in-Ok-close
returns-in-Ok-close g c =
    let a = c.args in
    close_says (g.M.DisplayMachine.meaning a.machine.now) g.C.Cost.kind a.targets.now a.codes.now a.preview.now (g.met.M.DisplayMachine.lawful a.machine.now) g.met.C.Cost.lawful
    (length a.cells.now) c.new.result c.new.ensures c.filled_line.new.cells c.in-Ok.line c.filled_line.auto.cells c.in-Ok.ensures
    c.close.new.codes c.close.new.preview c.in-Ok-close.ensures.coded c.in-Ok-close.ensures.previewed c.in-Ok-close.plate c.in-Ok-close.cost c.in-Ok-close.ensures.value
    c.report-in-Ok-close.result c.report-in-Ok-close.ensures

pub returns-in-Err-close : goal.returns-in-Err-close
returns-in-Err-close g c =
    let a = c.args in
    close_refuses (g.M.DisplayMachine.meaning a.machine.now) g.C.Cost.kind a.targets.now a.codes.now a.preview.now (g.met.M.DisplayMachine.lawful a.machine.now) g.met.C.Cost.lawful
    (length a.cells.now) c.new.result c.new.ensures c.filled_line.new.cells c.in-Ok.line c.filled_line.auto.cells c.in-Ok.ensures
    c.close.new.codes c.close.new.preview c.in-Err-close.ensures.coded c.in-Err-close.ensures.previewed c.in-Err-close.line c.in-Err-close.fault c.in-Err-close.ensures.value
