-- Targets by their bytes, three at a time.
use Rattle.std.proofs.Common.{◌≡◌, ℕ, suc, ◌/◌, List, [], ◌∷◌, length, map, refl, sym, ap, ◌∙◌, arith}
use Rattle.std.specs.Simd.{first_chunks}
use Rattle.display.specs.Colours.{target_by}
use Rattle.lines.specs.Lines.{targets_of}

-- as `as_chunks` takes them; bytes over at the end make no target
pub targets_by_chunks : (bytes : List ℕ) → targets_of bytes ≡ map target_by (first_chunks 3 (length bytes / 3) bytes)
targets_by_chunks [] = refl
targets_by_chunks (red ∷ []) = refl
targets_by_chunks (red ∷ green ∷ []) = refl
targets_by_chunks (red ∷ green ∷ blue ∷ bytes) =
    let more : length (red ∷ green ∷ blue ∷ bytes) / 3 ≡ suc (length bytes / 3) = omega arith in
    ap (λ targets. target_by (red ∷ green ∷ blue ∷ []) ∷ targets) (targets_by_chunks bytes)
    ∙ sym (ap (λ n. map target_by (first_chunks 3 n (red ∷ green ∷ blue ∷ bytes))) more)
