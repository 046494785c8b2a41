use Rattle.std.proofs.Common.{sym, ◌∙◌}
use Rattle.platefile.proofs.Followups.{pinned_fault, pinned_line}
use Rattle.platefile.proofs.reader.Lines.next_record.Goals as goal

pub returns-in_err-line-in-Pins : goal.returns-in_err-line-in-Pins
returns-in_err-line-in-Pins g c =
    let taken = c.in_ok-pins.ensures in
    pinned_fault g.C.Cost.kind c.args.self.now taken.0 c.in_ok-pins.field-0 c.in-Pins.pins taken.1 c.in-Pins.is (sym c.pins_are_right.ensures ∙ c.if-not-pins_are_right.false)
    c.from_residual-in_err-line-in-Pins.result c.in_err-line-in-Pins.field-0.0 c.in_err-line-in-Pins.ensures c.from_residual-in_err-line-in-Pins.ensures.1

pub returns-in_ok-line-in-Pins : goal.returns-in_ok-line-in-Pins
returns-in_ok-line-in-Pins g c =
    let taken = c.in_ok-pins.ensures in
    pinned_line g.C.Cost.kind c.args.self.now taken.0 c.in_ok-pins.field-0 c.in-Pins.pins taken.1 c.in-Pins.is (sym c.pins_are_right.ensures ∙ c.if-not-pins_are_right.false)
    c.in_ok-line-in-Pins.line c.in_ok-line-in-Pins.ensures
