-- The pixels of a line, read off its targets one by one.
use Rattle.std.proofs.Common.{◌≡◌, ℕ, zero, suc, ◌+◌, ◌/◌, ◌<◌, List, [], ◌∷◌, map, length, get_or, drop, None, Option, refl, ap, ◌∙◌, sym, arith}
use Rattle.std.specs.Simd.{first_chunks}
use Rattle.display.specs.Colours.{target_by}
use Rattle.display.specs.declared.colour.Target.{Target}
use Rattle.lines.specs.Lines.{targets_of}
use Rattle.records.specs.Records.{PinAt, pins_of, pin_at}
use Rattle.one_line.specs.Lines.{wanted_of}
use Rattle.one_line.specs.Pixels.{pixels_from, pixels_of_line}
use Rattle.one_line.proofs.Targets.{count_targets, target_more}

one_each : (j : ℕ) (ps : List PinAt) (targets : List Target) → length (pixels_from j ps targets) ≡ length targets
one_each j ps [] = refl
one_each j ps (target ∷ targets) = ap suc (one_each (j + 1) ps targets)

pub count_pixels : (pins bytes : List ℕ) → length (pixels_of_line pins bytes) ≡ length bytes / 3
count_pixels pins bytes = one_each 0 (pins_of pins) (targets_of bytes) ∙ count_targets bytes

pixels-drop : (i j : ℕ) (ps : List PinAt) (targets : List Target) → drop i (pixels_from j ps targets) ≡ pixels_from (j + i) ps (drop i targets)
pixels-drop zero j ps targets = ap (λ n. pixels_from n ps targets) (omega arith)
pixels-drop (suc i) j ps [] = refl
pixels-drop (suc i) j ps (target ∷ targets) =
    let n : j + 1 + i ≡ j + suc i = omega arith in
    pixels-drop i (j + 1) ps targets ∙ ap (λ x. pixels_from x ps (drop i targets)) n

-- without pins none is pinned
pub none_pinned : (bytes : List ℕ) → pixels_of_line [] bytes ≡ wanted_of bytes
none_pinned bytes = free 0 (targets_of bytes)
  where
    free : (i : ℕ) (targets : List Target) → pixels_from i [] targets ≡ map (λ target. record { target = target; pin = None }) targets
    free i [] = refl
    free i (target ∷ targets) = ap (λ ws. record { target = target; pin = None } ∷ ws) (free (i + 1) targets)

-- one more pixel, whose target is a chunk
module _ (pins bytes : List ℕ) (chunks : List (List ℕ)) (are : chunks ≡ first_chunks 3 (length bytes / 3) bytes) (i : ℕ) (h : i < length chunks) where
  pub pixels_more : (target : Target) (pin : Option ℕ) → target ≡ target_by (get_or chunks i []) → pin ≡ pin_at i (pins_of pins) →
      drop i (pixels_of_line pins bytes) ≡ record { target = target; pin = pin } ∷ drop (i + 1) (pixels_of_line pins bytes)
  pixels_more target pin t e =
      let ps = pins_of pins in
      let rest = drop (i + 1) (targets_of bytes) in
      let here : 0 + i ≡ i = omega arith in
      let next : 0 + i + 1 ≡ 0 + (i + 1) = omega arith in
      pixels-drop i 0 ps (targets_of bytes)
      ∙ ap (pixels_from (0 + i) ps) (target_more bytes chunks are i h ∙ ap (λ x. x ∷ rest) (sym t))
      ∙ ap (λ o. record { target = target; pin = o } ∷ pixels_from (0 + i + 1) ps rest) (ap (λ n. pin_at n ps) here ∙ sym e)
      ∙ ap (λ n. record { target = target; pin = pin } ∷ pixels_from n ps rest) next
      ∙ ap (λ ws. record { target = target; pin = pin } ∷ ws) (sym (pixels-drop (i + 1) 0 ps (targets_of bytes)))
