use Rattle.std.proofs.Common.{◌≡◌, ◌+◌, ◌≤◌, length, take, drop, is_some, sym, ap, ◌∙◌, arith, length-drop}
use Rattle.std.proofs.lemmas.List.{take_rest}
use Rattle.records.specs.Records.{mark_at, next_stage}
use Rattle.records.proofs.Heads.{ok_if}
use Rattle.records.proofs.Pieces.{front, is_known, takes}
use Rattle.records.proofs.cutting.cut.Goals as goal

pub returns : goal.returns
returns c =
    let input = c.args.input.now in
    let n = c.from-length.result in
    let rest = take_rest input 4 in
    let found = c.in-Some.ensures.lookup.0 in
    let many = ap length rest ∙ length-drop 4 input in
    let fits : 4 + n ≤ length input = omega (arith, found.1) in
    let body : c.in-Some.body.now ≡ take n (drop 4 input) = found.2 ∙ front _ n ∙ ap (take n) rest in
    takes c.args.colours c.args.width c.args.stage.now c.take.new.self c.args.at input _ c.record_of.result c.in-Ok.mark n
    fits (omega arith) (is_known (mark_at input) c.in-Ok.mark _ c.in-Ok.ensures)
    (ok_if (is_some (next_stage c.args.stage.now c.in-Ok.mark)) _ _ _ c.in_ok-take.ensures.value).0 c.in_ok-take.ensures.after
    (sym c.body_length_is_right.ensures ∙ c.if-not-body_length_is_right.false) body c.record_of.ensures
