use Rattle.std.proofs.Common.{◌≡◌}
use Rattle.trellis.specs.Cells.{sound_back}
use Rattle.trellis.proofs.trace.Columns.is_sound.Given as goal

abbrev pub invariant-loop-pixel : goal.invariant-loop-pixel
invariant-loop-pixel g l =
    let sound = sound_back (g.M.DisplayMachine.meaning l.self.machine.now) g.C.Cost.kind l.self.cells.now in
    sound l.pixel l.state ≡ sound l.self.pixels l.last
