use Rattle.std.proofs.Common.{◌/◌, length}
use Rattle.one_line.specs.Pixels.{pixels_of_line}
use Rattle.one_line.proofs.Filling.{Filled}
use Rattle.one_line.proofs.filled.fill_line.Given as goal

abbrev pub invariant-loop-pixel : goal.invariant-loop-pixel
invariant-loop-pixel g l =
    Filled (g.M.DisplayMachine.meaning l.machine) g.C.Cost.kind (length l.targets / 3) (pixels_of_line l.pins l.targets) l.initial.line.plate l.pixel l.line l.cells
