use Rattle.std.proofs.Common.{◌+◌, ◌*◌, length, ◌++◌, take, sym, ap, ◌∙◌, arith}
use Rattle.std.proofs.lemmas.List.FromFn.{length-map-range_with_len}
use Rattle.viterbi.specs.Columns.{next_column}
use Rattle.trellis.specs.Cells.{column_at, written}
use Rattle.trellis.specs.Stages.{stage}
use Rattle.trellis.proofs.Writing.{written_after}
use Rattle.trellis.proofs.columns.write_next.Goals as goal

pub returns : goal.returns
returns g c =
    let m = g.M.DisplayMachine.meaning c.args.pixel.now.machine.now in
    let k = g.C.Cost.kind in
    let S = m.states in
    let n = c.args.n in
    let xs = c.args.cells.now in
    let wide = c.from-states.ensures ∙ c.states.ensures in
    let whole = c.split_at_mut-both in
    let both = c.split_at_mut-column in
    let next = c.write.new.next in
    let column = both.ensures.front ∙ ap (take c.from-states.result) whole.ensures.back ∙ ap (λ s. column_at s n xs) wide in
    let sized = ap length c.write.ensures ∙ length-map-range_with_len _ 0 S ∙ sym wide in
    written_after whole.result.0.now both.result.0.now both.result.1.now next (n * S + S) c.from-states.result
    (omega (arith, whole.ensures.front_len, both.ensures.front_len, ap (λ s. n * s) wide)) sized
    ∙ ap (written (n * S + S) next) (sym (whole.ensures.value ∙ ap (λ ys. whole.result.0.now ++ ys) both.ensures.value))
    ∙ ap (λ ys. written (n * S + S) ys xs) (c.write.ensures ∙ ap (λ ys. next_column k S m.codes ys (stage m k c.args.pixel.now.wanted c.args.pixel.now.pin)) column)
