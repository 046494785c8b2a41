use Rattle.std.proofs.Common.{true, false}
use Rattle.trellis.proofs.Back.{sound_step}
use Rattle.trellis.proofs.trace.Columns.is_sound.Goals as goal

pub returns-then-not-step_is_sound : goal.returns-then-not-step_is_sound
returns-then-not-step_is_sound g c =
    let m = g.M.DisplayMachine.meaning c.args.self.now.machine.now in
    let step = sound_step m g.C.Cost.kind _ _ _ _ false c.loop-pixel-test.true c.cell-cell.ensures c.if-not-step_is_sound.ensures in
    cc

pub loop-pixel-preserved : goal.loop-pixel-preserved
loop-pixel-preserved g c =
    let m = g.M.DisplayMachine.meaning c.args.self.now.machine.now in
    let step = sound_step m g.C.Cost.kind _ _ _ _ true c.loop-pixel-test.true c.cell-cell.ensures c.if-not-step_is_sound.ensures in
    cc
