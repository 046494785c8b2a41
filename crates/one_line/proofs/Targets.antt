-- Targets, by their bytes.
use Rattle.std.proofs.Common.{◌≡◌, ℕ, ◌+◌, ◌/◌, ◌<◌, List, [], ◌∷◌, map, length, get_or, drop, refl, sym, ap, ◌∙◌, arith}
use Rattle.std.proofs.lemmas.List.{drop-map, drop_more}
use Rattle.std.specs.Simd.{first_chunks}
use Rattle.display.specs.Colours.{target_by}
use Rattle.lines.specs.Lines.{targets_of}
use Rattle.lines.proofs.Targets.{targets_by_chunks}

pub count_targets : (bytes : List ℕ) → length (targets_of bytes) ≡ length bytes / 3
count_targets [] = refl
count_targets (a ∷ []) = refl
count_targets (a ∷ b ∷ []) = refl
count_targets (a ∷ b ∷ c ∷ bytes) = omega (arith, count_targets bytes)

-- one more target, as a chunk of three bytes
pub target_more : (bytes : List ℕ) (chunks : List (List ℕ)) → chunks ≡ first_chunks 3 (length bytes / 3) bytes → (i : ℕ) → i < length chunks →
    drop i (targets_of bytes) ≡ target_by (get_or chunks i []) ∷ drop (i + 1) (targets_of bytes)
target_more bytes chunks are i h =
    let targets : targets_of bytes ≡ map target_by chunks = targets_by_chunks bytes ∙ ap (map target_by) (sym are) in
    ap (drop i) targets ∙ drop-map target_by i chunks ∙ ap (map target_by) (drop_more chunks i [] h)
    ∙ ap (λ ts. target_by (get_or chunks i []) ∷ ts) (sym (drop-map target_by (i + 1) chunks) ∙ ap (drop (i + 1)) (sym targets))
