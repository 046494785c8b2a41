use Rattle.std.proofs.Common.{◌∙◌}
use Rattle.trellis.proofs.Closing.{codes_written, preview_written, ready_whole}
use Rattle.trellis.proofs.plate.OpenLine.write_cheapest.Goals as goal

pub invariant_of-columns : goal.invariant_of-columns
invariant_of-columns g c =
    let a = c.args in
    record { whole = ready_whole (g.M.DisplayMachine.meaning a.machine.now) g.C.Cost.kind a.self.now a.cells.now a.codes.now a.preview.now c.from-pixels.result (c.from-pixels.ensures ∙ c.pixels.ensures) c.in_ok-check_ready.ensures }

pub returns-clause-coded : goal.returns-clause-coded
returns-clause-coded g c =
    let a = c.args in
    codes_written (g.M.DisplayMachine.meaning a.machine.now) g.C.Cost.kind a.self.now a.cells.now a.codes.now a.preview.now c.from-pixels.result (c.from-pixels.ensures ∙ c.pixels.ensures) c.in_ok-check_ready.ensures
    c.in_ok-last.last c.in_ok-last.ensures c.write_way_back.new.codes c.write_way_back.ensures.coded

pub returns-clause-previewed : goal.returns-clause-previewed
returns-clause-previewed g c =
    let a = c.args in
    preview_written (g.M.DisplayMachine.meaning a.machine.now) g.C.Cost.kind a.self.now a.cells.now a.codes.now a.preview.now c.from-pixels.result (c.from-pixels.ensures ∙ c.pixels.ensures) c.in_ok-check_ready.ensures
    c.in_ok-last.last c.in_ok-last.ensures c.write_way_back.new.preview c.write_way_back.ensures.previewed
