use Rattle.std.proofs.Common.{◌≡◌, ◌+◌, ◌≤◌, ◌∷◌, length, drop, None, vec_items, sym, ap, ◌∙◌, subst, arith}
use Rattle.lines.specs.Lines.{targets_of}
use Rattle.one_line.proofs.Targets.{count_targets, target_more}
use Rattle.editor_line.specs.Nearest.{Nearest, NearestBelow}
use Rattle.editor_line.proofs.Search.{Goes, goes_on, goes_not, goes_all}
use Rattle.editor_line.proofs.nearest.nearest_line.Goals as goal
use Rattle.editor_line.proofs.nearest.nearest_line.Goals.{else-loop-bytes-test, then-loop-bytes-test+in_default}

pub loop-bytes-preserved : goal.loop-bytes-preserved
loop-bytes-preserved g c =
    let m = g.M.DisplayMachine.meaning c.args.machine.now in
    let targets = targets_of c.args.targets.now in
    let i = c.loop-bytes.bytes-index in
    let target = c.from.result in
    let next : drop i targets ≡ target ∷ drop (i + 1) targets =
    target_more c.args.targets.now c.as_chunks.result.0.now c.as_chunks.ensures.front i c.loop-bytes-test.true ∙ ap (λ t. t ∷ drop (i + 1) targets) (sym c.from.ensures)
    in
    let near = subst (λ levels. Nearest m c.loop-bytes.state levels m.codes c.in-Some.choice) c.levels-wanted.ensures c.in-Some.ensures in
    subst (λ codes. Goes m targets codes c.in-Some.choice.state (i + 1)) (sym c.in_ok-push.ensures.items)
    (goes_on m targets (vec_items c.loop-bytes.codes) c.loop-bytes.state i target next c.loop-bytes.invariant c.in-Some.choice near)

pub returns : goal.returns
returns g c =
    let m = g.M.DisplayMachine.meaning c.args.machine.now in
    let targets = targets_of c.args.targets.now in
    let i = c.loop-bytes.bytes-index in
    elim c.loop-bytes-test.branch [
      | else-loop-bytes-test w ↦
          let ended : length targets ≤ i = omega (arith, count_targets c.args.targets.now, c.as_chunks.ensures.front_len, w.loop-bytes-test.false) in
          goes_all m targets (vec_items c.loop-bytes.codes) c.loop-bytes.state i ended c.loop-bytes.invariant
      | then-loop-bytes-test+in_default w ↦
          let next : drop i targets ≡ w.from.result ∷ drop (i + 1) targets =
          target_more c.args.targets.now c.as_chunks.result.0.now c.as_chunks.ensures.front i w.loop-bytes-test.true ∙ ap (λ t. t ∷ drop (i + 1) targets) (sym w.from.ensures)
          in
          let none = subst (λ levels. NearestBelow m c.loop-bytes.state levels m.codes None) w.levels-wanted.ensures w.in_default.ensures in
          goes_not m targets (vec_items c.loop-bytes.codes) c.loop-bytes.state i w.from.result next c.loop-bytes.invariant none
    ]
