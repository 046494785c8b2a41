use Rattle.std.proofs.Common.{◌∙◌}
use Rattle.trellis.proofs.Adding.{last_whole}
use Rattle.trellis.proofs.plate.OpenLine.check_add.Goals as goal

pub invariant_of-columns : goal.invariant_of-columns
invariant_of-columns g c =
    let a = c.args in
    record { whole = last_whole (g.M.DisplayMachine.meaning a.machine.now) a.self.now a.cells.now a.pin c.from-pixels.result (c.from-pixels.ensures ∙ c.pixels.ensures) c.in_ok-check_early.ensures }
