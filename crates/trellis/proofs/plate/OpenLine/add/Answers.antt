use Rattle.std.proofs.Common.{◌∙◌}
use Rattle.trellis.proofs.Adding.{lacks_one, next_whole}
use Rattle.trellis.proofs.plate.OpenLine.add.Goals as goal

pub extend-requires : goal.extend-requires
extend-requires g c =
    let a = c.args in
    next_whole (g.M.DisplayMachine.meaning a.machine.now) a.self.now a.cells.now a.pin g.C.Cost.kind a.target (c.in_ok-check_add.ensures a.target) c.from-pixels.result (c.from-pixels.ensures ∙ c.pixels.ensures)

pub overflow_sub-self : goal.overflow_sub-self
overflow_sub-self g c =
    let a = c.args in
    lacks_one (g.M.DisplayMachine.meaning a.machine.now) a.self.now a.cells.now a.pin g.C.Cost.kind a.target (c.in_ok-check_add.ensures a.target)
