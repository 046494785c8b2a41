-- One code more of a line.
use Rattle.std.proofs.Common.{◌≡◌, ℕ, suc, ◌+◌, leb, option_map, ◌<◌, List, [], ◌∷◌, ◌++◌, length, get_or, take, drop, set, refl, sym, ap, ◌∙◌, inl, inr, arith}
use Rattle.std.proofs.lemmas.List.{append_assoc, drop_more, length-take-le, set_at, take_more}
use Rattle.std.specs.List.{position, position_from}
use Rattle.std.proofs.lemmas.Iterator.Adapters.{position_from-zero}
use Rattle.std.proofs.lemmas.Bool.{cases_Bool}
use Rattle.display.specs.Machine.{Meaning}
use Rattle.lines.specs.declared.fault.Fault.TheVariants.{UnknownCode}
use Rattle.lines.specs.Lines.{after_code, preview_from}
use Rattle.lines.specs.Checks.{unknown_from, unknown_code}

-- the first unknown code is the first that is past K
unknown_position_from : (K n : ℕ) (cs : List ℕ) → unknown_from K n cs ≡ option_map (λ i. UnknownCode i) (position_from (λ c. leb K c) n cs)
unknown_position_from K n [] = refl
unknown_position_from K n (c ∷ cs) =
    elim (cases_Bool (leb K c)) [
      | inl h ↦ rw h refl
      | inr h ↦ rw h (unknown_position_from K (n + 1) cs)
    ]

pub unknown_position : (m : Meaning) (cs : List ℕ) → unknown_code m cs ≡ option_map (λ i. UnknownCode i) (position (λ c. leb m.codes c) cs)
unknown_position m cs =
    unknown_position_from m.codes 0 cs ∙ ap (option_map (λ i. UnknownCode i)) (sym (position_from-zero (λ c. leb m.codes c) cs))

pub length-preview : (m : Meaning) (s : ℕ) (cs : List ℕ) → length (preview_from m s cs) ≡ length cs
length-preview m s [] = refl
length-preview m s (c ∷ cs) = ap suc (length-preview m (after_code m s c) cs)

-- one more of a list's elements at the front of another
pub write_more : (front buffer rest : List ℕ) (i v : ℕ) → i < length front → i < length buffer → drop i front ≡ v ∷ rest →
    (set (take i front ++ drop i buffer) i v ≡ take (i + 1) front ++ drop (i + 1) buffer) × (drop (i + 1) front ≡ rest)
write_more front buffer rest i v h k e =
    let d = drop_more front i 0 h in
    let b = drop_more buffer i 0 k in
    let t = take_more front i 0 h in
    let l : length (take i front) ≡ i = length-take-le i front (omega arith) in
    let s = set_at (take i front) (get_or buffer i 0) (drop (i + 1) buffer) v i l in
    let v_is : get_or front i 0 ≡ v = cc in
    let a = append_assoc (take i front) (get_or front i 0 ∷ []) (drop (i + 1) buffer) in
    (cc, cc)
