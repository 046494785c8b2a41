use Rattle.std.proofs.Common.{take, vec_items, refl, ap, ◌∙◌}
use Rattle.run.proofs.Answering.{closes, closes_not}
use Rattle.run.proofs.closing.close_lent.Goals as goal

pub returns-in-Ok : goal.returns-in-Ok
returns-in-Ok g c =
    let count = c.from-pixels.result in
    closes (g.M.DisplayMachine.meaning c.args.machine.now) g.C.Cost.kind (g.met.M.DisplayMachine.lawful c.args.machine.now) g.met.C.Cost.lawful
    c.args.line c.args.cells.now c.args.cells.now (vec_items c.args.codes) (vec_items c.args.preview)
    c.in-Ok.plate c.in-Ok.cost c.truncate.new.self c.truncate-in-Ok.new.self count
    c.in-Ok.ensures.value (c.from-pixels.ensures ∙ c.pixels.ensures)
    (c.truncate.ensures.items ∙ ap (take count) c.in-Ok.ensures.coded)
    (c.truncate-in-Ok.ensures.items ∙ ap (take count) c.in-Ok.ensures.previewed)

pub returns-in-Err : goal.returns-in-Err
returns-in-Err g c =
    closes_not (g.M.DisplayMachine.meaning c.args.machine.now) g.C.Cost.kind (g.met.M.DisplayMachine.lawful c.args.machine.now) g.met.C.Cost.lawful
    c.args.line c.args.cells.now c.args.cells.now (vec_items c.args.codes) (vec_items c.args.preview)
    c.in-Err.line c.in-Err.fault c.in-Err.ensures.value refl
