use Rattle.std.proofs.Common.{◌+◌, ◌*◌, ◌/◌, ◌≤◌, length, sym, ap, arith}
use Rattle.lines.specs.Checks.{answer}
use Rattle.one_line.specs.Pixels.{pixels_of_line}
use Rattle.one_line.proofs.Filling.{filled_all, fill_more, fill_stops}
use Rattle.one_line.proofs.Pixels.{count_pixels, pixels_more}
use Rattle.one_line.proofs.filled.fill_line.Goals as goal

pub returns-in_err-add : goal.returns-in_err-add
returns-in_err-add g c =
    let a = c.args in
    let m = g.M.DisplayMachine.meaning a.machine.now in
    let n = length a.targets.now / 3 in
    let i = c.loop-pixel.pixel in
    let whole = c.as_chunks.result.0.now in
    let fits : n * m.states + m.states ≤ length c.loop-pixel.cells = omega (arith, c.requires.fits, c.loop-pixel.auto.cells) in
    let r =
    fill_stops m g.C.Cost.kind n (pixels_of_line a.pins.now a.targets.now) a.line.now.plate i c.loop-pixel.line c.loop-pixel.cells
    c.loop-pixel.invariant fits (omega (arith, c.loop-pixel-test.true, c.as_chunks.ensures.front_len)) (record { target = c.from-target.result; pin = c.pin_at.result })
    (pixels_more a.pins.now a.targets.now whole c.as_chunks.ensures.front i c.loop-pixel-test.true c.from-target.result c.pin_at.result c.from-target.ensures c.pin_at.ensures)
    c.add.new.self c.in_err-add.ensures.line
    c.from_residual.result c.in_err-add.field-0.0 c.from_residual.ensures.1 c.in_err-add.ensures.value
    in
    record { value = r.0; plate = r.1; drawn = λ none. absurd (r.2 none) }

pub loop-pixel-preserved : goal.loop-pixel-preserved
loop-pixel-preserved g c =
    let a = c.args in
    let m = g.M.DisplayMachine.meaning a.machine.now in
    let n = length a.targets.now / 3 in
    let i = c.loop-pixel.pixel in
    let whole = c.as_chunks.result.0.now in
    let fits : n * m.states + m.states ≤ length c.loop-pixel.cells = omega (arith, c.requires.fits, c.loop-pixel.auto.cells) in
    fill_more m g.C.Cost.kind n (pixels_of_line a.pins.now a.targets.now) a.line.now.plate i c.loop-pixel.line c.loop-pixel.cells
    c.loop-pixel.invariant fits (omega (arith, c.loop-pixel-test.true, c.as_chunks.ensures.front_len)) (record { target = c.from-target.result; pin = c.pin_at.result })
    (pixels_more a.pins.now a.targets.now whole c.as_chunks.ensures.front i c.loop-pixel-test.true c.from-target.result c.pin_at.result c.from-target.ensures c.pin_at.ensures)
    c.add.new.self c.in_ok-add.ensures.line
    (g.met.M.DisplayMachine.lawful a.machine.now) g.met.C.Cost.lawful c.add.new.cells c.in_ok-add.ensures.cells c.in_ok-add.ensures.value

pub returns : goal.returns
returns g c =
    let a = c.args in
    let pixels = pixels_of_line a.pins.now a.targets.now in
    let ended : length pixels ≤ c.loop-pixel.pixel = omega (arith, count_pixels a.pins.now a.targets.now, c.as_chunks.ensures.front_len, c.loop-pixel-test.false) in
    let all = filled_all (g.M.DisplayMachine.meaning a.machine.now) g.C.Cost.kind (length a.targets.now / 3) pixels a.line.now.plate c.loop-pixel.pixel c.loop-pixel.line c.loop-pixel.cells c.loop-pixel.invariant ended in
    record { value = ap (λ ch. answer ch tt) (sym all.0); plate = c.loop-pixel.invariant.rests; drawn = λ _. all.1 }
