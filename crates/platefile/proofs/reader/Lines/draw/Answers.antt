use Rattle.std.proofs.Common.{◌+◌, ◌/◌, length, Err, ap, sym, ◌∙◌, refl, subst}
use Rattle.std.proofs.lemmas.List.{with_items_is}
use Rattle.std.specs.Vec.{with_items}
use Rattle.records.specs.declared.fault.FileFault.TheVariants.{Plate}
use Rattle.records.specs.Letters.{meaning_of}
use Rattle.one_line.specs.Pixels.{pixels_of_line}
use Rattle.platefile.specs.declared.error.FileError.TheVariants.{Fault}
use Rattle.platefile.specs.Drawns.{DrawnRight}
use Rattle.platefile.specs.Reading.{OutRight, left_outputs}
use Rattle.platefile.proofs.Followups.{line_next, line_fault}
use Rattle.platefile.proofs.reader.Lines.draw.Goals as goal

pub returns-in-Ok-clause-out : goal.returns-in-Ok-clause-out
returns-in-Ok-clause-out g c =
    let s = c.args.self in
    let line = c.args.line in
    let draws = c.draw_any-plate in
    let right =
    subst (DrawnRight (meaning_of s.heading.display) g.C.Cost.kind (length c.as_mut_slice.result.now) (length line.targets.now / 3) (pixels_of_line line.pins.now line.targets.now) s.plate draws.result.0)
    c.in-Ok.is draws.ensures
    in
    line_next g.C.Cost.kind s line c.requires c.in-Ok.drawn draws.result.0
    (with_items s.cells draws.new.cells) (length c.as_mut_slice.result.now) (line.at + (4 + length line.targets.now)) (ap length c.as_mut_slice.ensures.value)
    (ap length (with_items_is s.cells draws.new.cells (draws.auto.cells ∙ c.as_mut_slice.ensures.len)) ∙ draws.auto.cells)
    right.1 right.0 refl

pub returns-in-Refused-clause-out : goal.returns-in-Refused-clause-out
returns-in-Refused-clause-out g c =
    let s = c.args.self in
    let line = c.args.line in
    let draws = c.draw_any-plate in
    let refused =
    subst (DrawnRight (meaning_of s.heading.display) g.C.Cost.kind (length c.as_mut_slice.result.now) (length line.targets.now / 3) (pixels_of_line line.pins.now line.targets.now) s.plate draws.result.0)
    (c.in-Err.is ∙ ap Err c.in-Refused.is) draws.ensures
    in
    subst (λ error. OutRight g.C.Cost.kind (left_outputs g.C.Cost.kind s) s.heading.display (Err error)) (sym (c.into.ensures ∙ ap Fault (c.from-in-Refused.ensures ∙ ap Plate c.from.ensures)))
    (line_fault g.C.Cost.kind s line c.requires (length c.as_mut_slice.result.now) c.report-report.result.lines c.in-Refused.fault (ap length c.as_mut_slice.ensures.value) (ap (λ r. r.lines) c.report-report.ensures ∙ ap (λ p. p.lines) refused.1) refused.0)
