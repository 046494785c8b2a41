use Rattle.std.proofs.Common.{◌≡◌, ◌++◌, drop}
use Rattle.trellis.specs.Cells.{codes_back, colours_back}
use Rattle.trellis.proofs.trace.Columns.write_way_back.Given as goal

abbrev pub invariant-loop-pixel : goal.invariant-loop-pixel
invariant-loop-pixel g l =
    let m = g.M.DisplayMachine.meaning l.self.machine.now in
    let k = g.C.Cost.kind in
    let cells = l.self.cells.now in
    let n = l.self.pixels in
    (codes_back m k cells l.pixel l.state ++ drop l.pixel l.codes ≡ codes_back m k cells n l.last ++ drop n l.initial.codes)
    × (colours_back m k cells l.pixel l.state ++ drop l.pixel l.preview ≡ colours_back m k cells n l.last ++ drop n l.initial.preview)
