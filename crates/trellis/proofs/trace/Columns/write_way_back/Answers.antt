use Rattle.std.proofs.Common.{refl, arith}
use Rattle.trellis.specs.Cells.{codes_back, colours_back}
use Rattle.trellis.proofs.Back.{written_step}
use Rattle.trellis.proofs.trace.Columns.write_way_back.Goals as goal

pub loop-pixel-preserved : goal.loop-pixel-preserved
loop-pixel-preserved g c =
    let self = c.args.self.now in
    let m = g.M.DisplayMachine.meaning self.machine.now in
    let k = g.C.Cost.kind in
    let cells = self.cells.now in
    let loop = c.loop-pixel in
    let cell = c.cell-cell in
    let coded = written_step m k cells (codes_back m k cells) (λ _ x. x.code) (λ _ _. refl) loop.pixel loop.state cell.result loop.codes c.loop-pixel-test.true (omega arith) cell.ensures in
    let previewed = written_step m k cells (colours_back m k cells) (λ s _. m.shown s) (λ _ _. refl) loop.pixel loop.state cell.result loop.preview c.loop-pixel-test.true (omega arith) cell.ensures in
    (cc, cc)
