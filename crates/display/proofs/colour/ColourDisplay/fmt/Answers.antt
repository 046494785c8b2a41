use Rattle.std.proofs.Common.{◌≡◌, ℕ, ◌-◌, ◌^◌, ◌/◌, ◌%◌, ◌<◌, ◌≤◌, false, [], ◌∷◌, refl, sym, subst, arith, inl, inr}
use Rattle.std.specs.Fmt.{HasWritten, char_count, digit_glyph, digits, format_spec, padded_integral}
use Rattle.std.proofs.lemmas.Bool.{cases_lt, eq-eqb, ne_eqb}
use Rattle.std.proofs.lemmas.Fmt.{hex_one_digit, hex_two_digits}
use Rattle.display.specs.Colours.{red_of, green_of, blue_of}
use Rattle.display.specs.Texts.{digit_of}
use Rattle.display.proofs.colour.ColourDisplay.fmt.Goals as goal

hex_three_digits : (n : ℕ) → 256 ≤ n → n < 4096 → digits 16 false n ≡ digit_glyph false (n / 256) ∷ digit_glyph false (n / 16 % 16) ∷ digit_glyph false (n % 16) ∷ []
unfolding digits
hex_three_digits n h k =
    let a : n / 16 / 16 ≡ n / 256 = omega arith in
    let b : n / 256 % 16 ≡ n / 256 = omega arith in
    rw (ne_eqb (n / 16) 0 (omega arith), ne_eqb (n / 16 / 16) 0 (omega arith), eq-eqb (n / 16 / 16 / 16) 0 (omega arith), a, b) refl

-- what `{:03x}` writes of a colour's number
three_digits : (n : ℕ) → n < 4096 →
    padded_integral (format_spec 32 0 4 3 (2 ^ 64 - 1)) false [] (digits 16 false n) ≡ digit_of (red_of n) ∷ digit_of (green_of n) ∷ digit_of (blue_of n) ∷ []
unfolding padded_integral char_count
three_digits n h =
    elim (cases_lt n 16) [
      | inl one ↦ (let a : n / 256 ≡ 0 = omega arith in let b : n / 16 % 16 ≡ 0 = omega arith in let c : n % 16 ≡ n = omega arith in rw (hex_one_digit false n one, a, b, c) refl)
      | inr more ↦ elim (cases_lt n 256) [
        | inl two ↦ (let a : n / 256 ≡ 0 = omega arith in let b : n / 16 % 16 ≡ n / 16 = omega arith in rw (hex_two_digits false n more two, a, b) refl)
        | inr three ↦ rw (hex_three_digits n three h) refl
      ]
    ]

-- the same of a number that is a colour's
three_digits_of : (n colour : ℕ) → n ≡ colour → colour < 4096 →
    padded_integral (format_spec 32 0 4 3 (2 ^ 64 - 1)) false [] (digits 16 false n) ≡ digit_of (red_of colour) ∷ digit_of (green_of colour) ∷ digit_of (blue_of colour) ∷ []
three_digits_of n colour e h = subst (λ m. padded_integral (format_spec 32 0 4 3 (2 ^ 64 - 1)) false [] (digits 16 false m) ≡ digit_of (red_of colour) ∷ digit_of (green_of colour) ∷ digit_of (blue_of colour) ∷ []) (sym e) (three_digits colour h)

pub returns-clause-writes : goal.returns-clause-writes
returns-clause-writes g c p o =
    subst (λ text. HasWritten g.W.Write.write_str_gives c.args.f.now text c.write.new.self)
    (three_digits_of _ (c.args.self.now.0 % 4096) (omega arith) (omega arith))
    ((rw (c.laid_out.ensures, c.in_radix.ensures) at c.write.ensures.writes) p o)
