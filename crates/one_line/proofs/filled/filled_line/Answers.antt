use Rattle.std.proofs.Common.{◌/◌, [], length, None, sym, ap, ◌∙◌, subst}
use Rattle.run.specs.Agreement.{OpenRight}
use Rattle.trellis.specs.Calls.{start_check}
use Rattle.trellis.proofs.Checking.{told}
use Rattle.one_line.specs.Drawing.{blocked}
use Rattle.one_line.specs.Pixels.{pixels_of_line}
use Rattle.one_line.proofs.Pixels.{count_pixels}
use Rattle.one_line.proofs.Starting.{starts_open, same_width}
use Rattle.one_line.proofs.filled.filled_line.Goals as goal

pub fill_line-requires-clause-opened : goal.fill_line-requires-clause-opened
fill_line-requires-clause-opened g c =
    let a = c.args in
    let m = g.M.DisplayMachine.meaning a.machine.now in
    let w = c.unwrap_or-width.result in
    let s = starts_open m g.C.Cost.kind a.plate a.cells.now c.start.new.cells w c.in_ok-line.line c.in_ok-line.ensures.value c.in_ok-line.ensures.cells in
    let wide = same_width m (length a.cells.now) a.plate.lines (length a.targets.now / 3) w c.try_from.result c.try_from.ensures c.unwrap_or-width.ensures s.0 in
    subst (λ n. OpenRight m g.C.Cost.kind n [] c.in_ok-line.line c.start.new.cells) wide s.2

pub returns-in-Ok : goal.returns-in-Ok
returns-in-Ok g c =
    let a = c.args in
    let m = g.M.DisplayMachine.meaning a.machine.now in
    let n = length a.targets.now / 3 in
    let w = c.unwrap_or-width.result in
    let s = starts_open m g.C.Cost.kind a.plate a.cells.now c.start.new.cells w c.in_ok-line.line c.in_ok-line.ensures.value c.in_ok-line.ensures.cells in
    let wide = same_width m (length a.cells.now) a.plate.lines n w c.try_from.result c.try_from.ensures c.unwrap_or-width.ensures s.0 in
    let rests = c.in-Ok.ensures.plate ∙ s.1 in
    let passes = told None (blocked m g.C.Cost.kind [] (pixels_of_line a.pins.now a.targets.now)) tt tt c.in-Ok.ensures.value in (
      rests,
      record {
        starts =
            ap (λ cells. start_check m cells c.fill_line.new.line.plate.lines n) (c.fill_line.auto.cells ∙ c.start.auto.cells)
            ∙ ap (λ p. start_check m (length a.cells.now) p.lines n) rests
            ∙ ap (start_check m (length a.cells.now) a.plate.lines) (sym wide) ∙ s.0;
        passes = passes;
        long = count_pixels a.pins.now a.targets.now;
        drawn = c.in-Ok.ensures.drawn passes;
      },
    )
