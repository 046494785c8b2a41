use Rattle.std.proofs.Common.{◌≡◌, ◌++◌, take, drop}
use Rattle.lines.specs.Lines.{preview_of, preview_from}
use Rattle.lines.proofs.showing.write_preview.Given as goal

abbrev pub invariant-loop-pixel : goal.invariant-loop-pixel
invariant-loop-pixel g l =
    let m = g.M.DisplayMachine.meaning l.machine in
    (l.preview ≡ take l.pixel (preview_of m l.codes) ++ drop l.pixel l.initial.preview)
    × (drop l.pixel (preview_of m l.codes) ≡ preview_from m l.state (drop l.pixel l.codes))
