-- A line read from left to right, with one code more at its end.
use Rattle.std.proofs.Common.{◌≡◌, ℕ, true, ◌↔◌, List, [], ◌∷◌, ◌++◌, length, is_some, refl, ap, arith}
use Rattle.std.proofs.lemmas.List.{length_push}
use Rattle.cost.specs.Kind.{Kind}
use Rattle.display.specs.Colours.{levels_of}
use Rattle.display.specs.Machine.{Meaning}
use Rattle.display.specs.declared.colour.Target.{Target}
use Rattle.lines.specs.Lines.{after_code, LegalFrom, preview_from, price_at, cost_from}
use Rattle.run.specs.Account.{Wanted}
use Rattle.run.specs.Rivals.{KeepsPin, Keeps, Rival}

-- the state after a code line
abbrev pub end_from : Meaning → ℕ → List ℕ → ℕ
end_from m s [] = s
end_from m s (c ∷ cs) = end_from m (after_code m s c) cs

module _ (m : Meaning) where
  -- the state that it ends in, whether it is legal, what it shows, and what it costs
  pub end_push : (s : ℕ) (cs : List ℕ) (c : ℕ) → end_from m s (cs ++ c ∷ []) ≡ after_code m (end_from m s cs) c
  end_push s [] c = refl
  end_push s (d ∷ cs) c = end_push (after_code m s d) cs c

  pub legal_push : (s : ℕ) (cs : List ℕ) (c : ℕ) → LegalFrom m s (cs ++ c ∷ []) ↔ (LegalFrom m s cs × (is_some (m.step (end_from m s cs) c) ≡ true))
  legal_push s [] c = (λ l. (tt, l.0), λ l. (l.1, tt))
  legal_push s (d ∷ cs) c =
      let r = legal_push (after_code m s d) cs c in
      (λ l. let q = r.0 l.1 in ((l.0, q.0), q.1), λ l. (l.0.0, r.1 (l.0.1, l.1)))

  pub preview_push : (s : ℕ) (cs : List ℕ) (c : ℕ) → preview_from m s (cs ++ c ∷ []) ≡ preview_from m s cs ++ m.shown (after_code m (end_from m s cs) c) ∷ []
  preview_push s [] c = refl
  preview_push s (d ∷ cs) c = ap (λ shown. m.shown (after_code m s d) ∷ shown) (preview_push (after_code m s d) cs c)

  pub cost_push : {C : Type 0} (k : Kind C) (sum : C) (s : ℕ) (cs : List ℕ) (ts : List Target) (c : ℕ) (t : Target) → length cs ≡ length ts →
      cost_from m k sum s (cs ++ c ∷ []) (ts ++ t ∷ []) ≡ k.join (cost_from m k sum s cs ts) (price_at m k (levels_of t) c (after_code m (end_from m s cs) c))
  cost_push k sum s [] [] c t e = refl
  cost_push k sum s [] (u ∷ ts) c t e = absurd (omega arith)
  cost_push k sum s (d ∷ cs) [] c t e = absurd (omega arith)
  cost_push k sum s (d ∷ cs) (u ∷ ts) c t e = cost_push k (k.join sum (price_at m k (levels_of u) d (after_code m s d))) (after_code m s d) cs ts c t (omega arith)

-- one pixel more too: the pins that it keeps, and so its rivals
pub keeps_push : (ps : List Wanted) (cs : List ℕ) (p : Wanted) (c : ℕ) → length cs ≡ length ps → Keeps (ps ++ p ∷ []) (cs ++ c ∷ []) ↔ (Keeps ps cs × KeepsPin p.pin c)
keeps_push [] [] p c e = (λ h. (tt, h.0), λ h. (h.1, tt))
keeps_push [] (d ∷ cs) p c e = absurd (omega arith)
keeps_push (q ∷ ps) [] p c e = absurd (omega arith)
keeps_push (q ∷ ps) (d ∷ cs) p c e =
    let r = keeps_push ps cs p c (omega arith) in
    (λ h. let s = r.0 h.1 in ((h.0, s.0), s.1), λ h. (h.0.0, r.1 (h.0.1, h.1)))

pub rival_push : (m : Meaning) (ps : List Wanted) (cs : List ℕ) (p : Wanted) (c : ℕ) →
    Rival m (ps ++ p ∷ []) (cs ++ c ∷ []) ↔ (Rival m ps cs × (is_some (m.step (end_from m m.start cs) c) ≡ true) × KeepsPin p.pin c)
rival_push m ps cs p c = (
  λ r.
      let e : length cs ≡ length ps = omega (arith, r.long, length_push cs c, length_push ps p) in
      let l = (legal_push m m.start cs c).0 r.legal in
      let h = (keeps_push ps cs p c e).0 r.keeps in
      (record { legal = l.0; long = e; keeps = h.0 }, l.1, h.1),
  λ r. record {
    legal = (legal_push m m.start cs c).1 (r.0.legal, r.1);
    long = omega (arith, r.0.long, length_push cs c, length_push ps p);
    keeps = (keeps_push ps cs p c r.0.long).1 (r.0.keeps, r.2);
  },
)
