-- Parts of a list that are written.
use Rattle.std.proofs.Common.{◌≡◌, ℕ, zero, suc, ◌+◌, List, [], ◌∷◌, ◌++◌, map, length, take, drop, replicate, subst, sym, refl, ap, ◌∙◌, ap₂, append_assoc, length-append}
use Rattle.std.specs.List.{range_with_len, FoldsTo}
use Rattle.std.proofs.lemmas.List.{drop-drop, take_at, drop_at}
use Rattle.trellis.specs.Cells.{written}

module _ {X : Type 0} where
  -- each turn makes b, and leaves the state as it was
  pub all_made : {P : Type 0} (R : P → X → P → Type 0) (b : X) (f : P) → ((x : X) (q : P) → R f x q → (x ≡ b) × (q ≡ f)) → (xs : List X) (last : P) → FoldsTo R f xs last → xs ≡ replicate (length xs) b
  all_made R b f same [] last e = refl
  all_made R b f same (x ∷ xs) last e =
      let turn = same x e.0 e.1 in
      ap₂ ◌∷◌ turn.0 (all_made R b f same xs last (subst (λ q. FoldsTo R q xs last) turn.1 e.2))

  pub replicate-range_with_len : (b : X) (a n : ℕ) → replicate n b ≡ map (λ _. b) (range_with_len a n)
  replicate-range_with_len b a zero = refl
  replicate-range_with_len b a (suc n) = ap (◌∷◌ b) (replicate-range_with_len b (a + 1) n)

  -- the n elements from place a on are written, which follow front and part
  pub written_after : (front part after ys : List X) (a n : ℕ) → length front + length part ≡ a → length ys ≡ n → front ++ (part ++ (ys ++ drop n after)) ≡ written a ys (front ++ (part ++ after))
  written_after front part after ys a n at long =
      ap (λ zs. front ++ (part ++ (ys ++ zs))) rest
      ∙ sym (append_assoc front part _)
      ∙ ap (λ zs. zs ++ (ys ++ drop (a + length ys) whole)) (sym (take_at (front ++ part) after a size) ∙ ap (take a) (append_assoc front part after))
    where
      whole : List X
      whole = front ++ (part ++ after)

      size : length (front ++ part) ≡ a
      size = length-append front part ∙ at

      rest : drop n after ≡ drop (a + length ys) whole
      rest =
          ap (λ i. drop i after) (sym long)
          ∙ ap (drop (length ys)) (sym (drop_at (front ++ part) after a size))
          ∙ drop-drop (length ys) a ((front ++ part) ++ after)
          ∙ ap (drop (a + length ys)) (append_assoc front part after)
