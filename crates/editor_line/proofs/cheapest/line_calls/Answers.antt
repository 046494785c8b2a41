use Rattle.std.proofs.Common.{rules, [], ◌∷◌, ◌++◌, map, length, ap, ◌∙◌}
use Rattle.std.proofs.lemmas.Iterator.{YieldsList-from_map, YieldsList-from_slice}
use Rattle.std.proofs.lemmas.Iterator.Adapters.{items_from_extend}
use Rattle.std.proofs.lemmas.Result.{IfOk-at_ok}
use Rattle.display.specs.Colours.{target_by}
use Rattle.run.specs.declared.entry.Call.TheVariants.{Pixel, Close, Report}
use Rattle.editor_line.proofs.Calling.{line_called}
use Rattle.editor_line.proofs.cheapest.line_calls.Goals as goal

pub returns : goal.returns
returns c =
    let chunks = c.as_chunks.result.0.now in
    let n = length chunks in
    let added = items_from_extend c.extend.result c.extend.ensures.ran (YieldsList-from_map _ (λ chunk. Pixel (target_by chunk)) (YieldsList-from_slice chunks cc) c.map.ensures.closure (λ x r q k. search rules)) in
    line_called c.args.targets.now chunks c.as_chunks.ensures.front _
    (c.in_ok-push-2.ensures.items
    ∙ ap (λ calls. calls ++ Report ∷ []) (c.in_ok-push.ensures.items
    ∙ ap (λ calls. calls ++ Close n n ∷ []) ((IfOk-at_ok _ c.in_ok-extend.was added).0
    ∙ ap (λ calls. calls ++ map (λ chunk. Pixel (target_by chunk)) chunks) c.in_ok-calls.ensures.items)))
