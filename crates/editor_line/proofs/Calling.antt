-- The calls of a line, by its bytes three at a time.
use Rattle.std.proofs.Common.{◌≡◌, ℕ, ◌/◌, List, [], ◌∷◌, ◌++◌, map, length, sym, ap, ◌∙◌, append_assoc}
use Rattle.std.proofs.lemmas.List.{length-map}
use Rattle.std.proofs.lemmas.Simd.{map-map}
use Rattle.std.specs.Simd.{first_chunks}
use Rattle.display.specs.Colours.{target_by}
use Rattle.lines.specs.Lines.{targets_of}
use Rattle.lines.proofs.Targets.{targets_by_chunks}
use Rattle.run.specs.declared.entry.Call.{Call}
use Rattle.run.specs.declared.entry.Call.TheVariants.{Start, Pixel, Close, Report}
use Rattle.editor_line.specs.Cheapest.{line_calls}

pub line_called : (bytes : List ℕ) (chunks : List (List ℕ)) → chunks ≡ first_chunks 3 (length bytes / 3) bytes → (calls : List Call) →
    calls ≡ ((Start (length chunks) ∷ map (λ chunk. Pixel (target_by chunk)) chunks) ++ Close (length chunks) (length chunks) ∷ []) ++ Report ∷ [] → calls ≡ line_calls (targets_of bytes)
line_called bytes chunks are calls made =
    made
    ∙ append_assoc (Start (length chunks) ∷ map (λ chunk. Pixel (target_by chunk)) chunks) (Close (length chunks) (length chunks) ∷ []) (Report ∷ [])
    ∙ ap (λ pixels. Start (length chunks) ∷ (pixels ++ Close (length chunks) (length chunks) ∷ Report ∷ [])) (sym (map-map Pixel target_by chunks))
    ∙ ap (λ n. Start n ∷ (map Pixel (map target_by chunks) ++ Close n n ∷ Report ∷ [])) (sym (length-map chunks target_by))
    ∙ ap line_calls (ap (map target_by) are ∙ sym (targets_by_chunks bytes))
