use Rattle.std.proofs.Common.{ℕ, Bool, ◌&&◌, is_some, ap, ◌∙◌, arith, rules}
use Rattle.std.proofs.lemmas.Iterator.{YieldsList-from_range, YieldsList-from_slice, YieldsList-from_zip}
use Rattle.std.proofs.lemmas.Iterator.Search.{any_from_yields_List}
use Rattle.viterbi.specs.declared.Cell.{Cell}
use Rattle.viterbi.specs.Columns.{any_below, blank}
use Rattle.trellis.specs.Cells.{column_at}
use Rattle.trellis.specs.Stages.{permitted}
use Rattle.trellis.proofs.Reading.{column_length}
use Rattle.trellis.proofs.Ranges.{any_numbered}
use Rattle.trellis.proofs.trace.Columns.can_extend.Goals as goal

pub returns : goal.returns
returns g c wanted =
    let self = c.args.self.now in
    let m = g.M.DisplayMachine.meaning self.machine.now in
    let column = column_at m.states self.pixels self.cells.now in
    let test : ℕ × Cell g.row.C.Denot → Bool = λ p. p.1.reached && any_below m.codes (λ d. is_some (permitted m c.args.pin p.0 d)) in
    any_from_yields_List test c.any.new.self _ _ c.any.ensures.ran
    (YieldsList-from_zip (YieldsList-from_range 0 m.states m.states (c.zip.ensures.first ∙ ap (λ n. record { start = 0; end = n }) c.states.ensures) (omega arith)) (YieldsList-from_slice column (c.zip.ensures.second.0 ∙ c.column-column.ensures)))
    (λ x b q k. search rules)
    ∙ any_numbered test column m.states (blank g.C.Cost.kind) (column_length m.states self.pixels self.cells.now self.whole)
