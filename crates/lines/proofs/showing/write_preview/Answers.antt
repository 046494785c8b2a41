use Rattle.std.proofs.Common.{◌≡◌, ◌+◌, ◌∷◌, length, get_or, drop, ◌∙◌, arith}
use Rattle.std.proofs.lemmas.List.{at_drop_more, take_all}
use Rattle.lines.specs.Lines.{preview_of, preview_from, after_code}
use Rattle.lines.proofs.Walks.{length-preview, write_more}
use Rattle.lines.proofs.showing.write_preview.Goals as goal

pub loop-pixel-preserved : goal.loop-pixel-preserved
loop-pixel-preserved g c =
    let m = g.M.DisplayMachine.meaning c.args.machine.now in
    let cs = c.args.codes.now in
    let i = c.loop-pixel.pixel in
    let s = c.loop-pixel.state in
    let inv = c.loop-pixel.invariant in
    let n = length-preview m m.start cs in
    let next : c.next_state-state.result ≡ after_code m s (get_or cs i 0) = c.next_state-state.ensures in
    let more : preview_from m s (drop i cs) ≡ m.shown (after_code m s (get_or cs i 0)) ∷ preview_from m (after_code m s (get_or cs i 0)) (drop (i + 1) cs) =
    at_drop_more (preview_from m s) cs i 0 (omega arith)
    in
    let w = write_more (preview_of m cs) c.args.preview.now _ i _ (omega arith) (omega arith) (inv.1 ∙ more) in
    (cc, cc)

pub returns : goal.returns
returns g c =
    let m = g.M.DisplayMachine.meaning c.args.machine.now in
    let cs = c.args.codes.now in
    let n = length-preview m m.start cs in
    let i : c.loop-pixel.pixel ≡ length (preview_of m cs) = omega arith in
    let t = take_all c.loop-pixel.pixel (preview_of m cs) (omega arith) in
    let inv = c.loop-pixel.invariant.0 in
    cc
