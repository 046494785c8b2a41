use Rattle.std.proofs.Common.{◌≡◌, drop}
use Rattle.lines.specs.Checks.{no_step, stuck_from}
use Rattle.lines.proofs.check.check_steps.Given as goal

abbrev pub invariant-loop-pixel : goal.invariant-loop-pixel
invariant-loop-pixel g l =
    let m = g.M.DisplayMachine.meaning l.machine in
    no_step m l.codes ≡ stuck_from m l.state l.pixel (drop l.pixel l.codes)
