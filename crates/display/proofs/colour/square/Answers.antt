use Rattle.std.proofs.Common.{◌≡◌, ℕ, zero, suc, ◌-◌, ◌*◌, ◌≤◌, min, max, ℤ, pos, negsuc, ◌-ℤ◌, ◌*ℤ◌, neg_ℤ, nat_abs, refl, ap, ◌∙◌, mul-le-mul, arith, w32, SFits, to_z, of_z, rules}
use Rattle.std.proofs.lemmas.Int.{ints, to_z-of_z}
use Rattle.display.specs.Colours.{squared}
use Rattle.display.proofs.colour.square.Goals as goal

abs_neg : (n : ℕ) → nat_abs (neg_ℤ (pos n)) ≡ n
abs_neg zero = refl
abs_neg (suc n) = refl

abs-mul : (a b : ℤ) → nat_abs (a *ℤ b) ≡ nat_abs a * nat_abs b
abs-mul (pos a) (pos b) = refl
abs-mul (pos a) (negsuc b) = abs_neg (a * suc b)
abs-mul (negsuc a) (pos b) = abs_neg (suc a * b)
abs-mul (negsuc a) (negsuc b) = refl

-- two bytes differ by less than 32 bits can hold
difference : (a b : ℕ) → a ≤ 255 → b ≤ 255 → nat_abs (to_z w32 (of_z w32 (to_z w32 (of_z w32 (pos a)) -ℤ to_z w32 (of_z w32 (pos b))))) ≡ max a b - min a b
difference a b h k = omega (arith, ints)

pub returns : goal.returns
returns c =
    let a = c.args.a in
    let b = c.args.b in
    let x : ℤ = to_z w32 (of_z w32 (to_z w32 (of_z w32 c.from.result) -ℤ to_z w32 (of_z w32 c.from-2.result))) in
    let m : nat_abs x ≡ max a b - min a b = rw (c.from.ensures, c.from-2.ensures) (difference a b (omega arith) (omega arith)) in
    let f : SFits w32 (x *ℤ x) = search rules in
    let e : nat_abs (to_z w32 (of_z w32 (x *ℤ x))) ≡ squared a b = ap nat_abs (to_z-of_z w32 (x *ℤ x) f) ∙ abs-mul x x ∙ ap (λ n. n * n) m in
    let n : max a b - min a b ≤ 255 = omega arith in
    record {
      value = e;
      fits = omega (arith, e, mul-le-mul n n);
      bound = λ h k. let n : max a b - min a b ≤ 15 = omega arith in omega (arith, e, mul-le-mul n n);
    }
