use Rattle.std.proofs.Common.{suc, [], length, drop, None, sym, refl, ap, ◌∙◌, arith}
use Rattle.records.specs.Letters.{meaning_of}
use Rattle.platefile.specs.Files.{outputs}
use Rattle.platefile.proofs.Displays.{sound}
use Rattle.platefile.proofs.Outputs.{kept_from}
use Rattle.one_line.proofs.Passing.{drawn_best}
use Rattle.platefile.proofs.opening.lines_of.Goals as goal

pub returns : goal.returns
returns g c =
    let h = c.args.heading in
    let m = meaning_of h.display in
    let k = g.C.Cost.kind in
    let rest = drop h.at c.args.input.now in
    let law = g.met.C.Cost.lawful in
    record {
      outs = ap (λ n. outputs m k n h.colours h.width h.at rest c.new.result.lines c.new.result.total) (sym c.in_ok-vec.field-0.ok.0 ∙ c.in_ok-vec.ensures.len)
          ∙ ap (λ p. outputs m k c.args.cells h.colours h.width h.at rest p.lines p.total) c.new.ensures;
      under = refl;
      kept = kept_from m k c.args.cells h.colours h.width (sound h.display) law (λ lines pixels line e. drawn_best m k (sound h.display) law c.args.cells lines h.width pixels line e) (suc (length rest)) h.at rest None [] (omega arith) tt;
    }
