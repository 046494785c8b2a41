-- Numbers of two bytes each, as `as_chunks` takes them.
use Rattle.std.proofs.Common.{◌≡◌, ℕ, zero, suc, ◌+◌, ◌*◌, ◌/◌, List, [], ◌∷◌, map, length, get_or, drop, refl, sym, ap, ◌∙◌, subst, arith, nat_le}
use denote.Param.Members.{Mut, Called}
use Rattle.std.proofs.lemmas.List.{drop_all, drop_more}
use Rattle.std.specs.Array.{IsFromFnResult, IsFromFnResultFrom}
use Rattle.std.specs.Int.{w16, from_le_bytes}
use Rattle.std.specs.List.{list_all}
use Rattle.std.specs.Simd.{first_chunks}
use Rattle.records.specs.Letters.{number_of_bytes, words}
use Rattle.records.specs.Records.{all_colours, palette_right}

abbrev pub word_of : List ℕ → ℕ
word_of chunk = from_le_bytes w16 chunk

pub word_of_two : (low high : ℕ) (rest : List ℕ) → word_of (low ∷ high ∷ rest) ≡ number_of_bytes low high
word_of_two low high rest = omega arith

-- a byte over at the end makes no number
pub words_by_chunks : (bytes : List ℕ) → words bytes ≡ map word_of (first_chunks 2 (length bytes / 2) bytes)
words_by_chunks [] = refl
words_by_chunks (low ∷ []) = refl
words_by_chunks (low ∷ high ∷ bytes) =
    let more : suc (length bytes / 2) ≡ length (low ∷ high ∷ bytes) / 2 = omega arith in
    ap (λ word. word ∷ words bytes) (sym (word_of_two low high []))
    ∙ ap (λ ws. word_of (low ∷ high ∷ []) ∷ ws) (words_by_chunks bytes)
    ∙ ap (λ n. map word_of (first_chunks 2 n (low ∷ high ∷ bytes))) more

-- each number has at most twelve bits
pub colours_each : (bytes : List ℕ) (chunks : List (List ℕ)) → chunks ≡ first_chunks 2 (length bytes / 2) bytes →
    list_all (λ chunk. nat_le (word_of chunk) 4095) chunks ≡ palette_right bytes
colours_each bytes chunks are = each chunks ∙ ap (λ cs. all_colours (map word_of cs)) are ∙ ap all_colours (sym (words_by_chunks bytes))
  where
    each : (chunks : List (List ℕ)) → list_all (λ chunk. nat_le (word_of chunk) 4095) chunks ≡ all_colours (map word_of chunks)
    each [] = refl
    each (chunk ∷ chunks) = let rest = each chunks in cc

-- the numbers that calls of a closure that stays the same made, one of each chunk
module _ {F : Type 0} (g : Mut F (ℕ × Unit {0}) ℕ) (f : F) (chunks : List (List ℕ))
    (call : (k y : ℕ) (q : F) → Called g f (k, tt) y q → (q ≡ f) × (y ≡ word_of (get_or chunks k []))) where
  words_from : (made : List ℕ) (i n : ℕ) → length made ≡ i + n → length chunks ≡ i + n → IsFromFnResultFrom g f made i n → drop i made ≡ map word_of (drop i chunks)
  words_from made i zero l c from =
      drop_all i made (omega arith) ∙ ap (map word_of) (sym (drop_all i chunks (omega arith)))
  words_from made i (suc n) l c (q, y, at, called, from) =
      let said = call i y q called in
      let rest = words_from made (i + 1) n (omega arith) (omega arith) (subst (λ p. IsFromFnResultFrom g p made (i + 1) n) said.0 from) in
      let d = drop_more made i 0 (omega arith) in
      let e = drop_more chunks i [] (omega arith) in
      let v = at.1 0 in
      let w = said.1 in
      cc

  pub words_made : (made bytes : List ℕ) (n : ℕ) → length bytes ≡ 2 * n → chunks ≡ first_chunks 2 (length bytes / 2) bytes → length chunks ≡ length bytes / 2 →
      IsFromFnResult g f made n → made ≡ words bytes
  words_made made bytes n long are many from =
      words_from made 0 n (omega (arith, from.long)) (omega arith) from.each
      ∙ ap (map word_of) are ∙ sym (words_by_chunks bytes)
