-- What the bids of a state come to.
use Rattle.std.proofs.Common.{◌≡◌, ℕ, ◌+◌, ◌≤◌, true, false, cond, ◌&&◌, ◌||◌, ◌≢◌, List, map, get_or, set, is_some, Some, None, Option, sym, refl, ap, ◌∙◌, add-one}
use mathlib.Core.Path.{fun_ext}
use mathlib.Core.Bool.{or-false}
use Rattle.std.specs.List.{range_with_len}
use Rattle.std.proofs.lemmas.Bool.{cond-false, cond-true, eq-eqb, ne_eqb}
use Rattle.cost.specs.Kind.{Kind}
use Rattle.display.specs.Machine.{Meaning, Lawful}
use Rattle.display.specs.declared.colour.Levels.{Levels}
use Rattle.viterbi.specs.declared.Cell.{Cell}
use Rattle.viterbi.specs.Columns.{any_below, at, bid, leads, survivor, tried, tried_codes}
use Rattle.viterbi.specs.Ways.{Stage}
use Rattle.trellis.specs.Bids.{indexed, offer}
use Rattle.trellis.specs.Stages.{permitted, stage}
use Rattle.trellis.proofs.Folds.{none_counts, one_counts}
use Rattle.trellis.proofs.Indexing.{indexed-map, indexed-set}

module _ {C : Type 0} (k : Kind C) (cost : C) (p : Stage C) (s c : ℕ) where
  offered : (t : ℕ) (next : Option ℕ) → p.next s c ≡ next → offer k cost p t s c ≡ cond (leads next t) (Some (k.join cost (p.price c t))) None
  offered t next e = ap (λ o. cond (leads o t) (Some (k.join cost (p.price c t))) None) e

  pub no_bid : p.next s c ≡ None → (t : ℕ) (x : Cell C) → tried k s c (offer k cost p t s c) x ≡ x
  no_bid e t x = ap (λ o. tried k s c o x) (offered t None e)

  pub one_bid : (t : ℕ) (x : C) → p.next s c ≡ Some t → x ≡ k.join cost (p.price c t) → (xs : List (Cell C)) (d : Cell C) →
      set xs t (tried k s c (Some x) (get_or xs t d)) ≡ indexed (λ u. tried k s c (offer k cost p u s c)) xs
  one_bid t x goes costs xs d =
      ap (λ o. set xs t (tried k s c o (get_or xs t d))) (ap Some costs ∙ sym (offered t (Some t) goes ∙ cond-true _ _ _ (eq-eqb t t refl)))
      ∙ indexed-set (λ u. tried k s c (offer k cost p u s c)) xs t d
      (λ u y ne. ap (λ o. tried k s c o y) (offered u (Some t) goes ∙ cond-false _ _ _ (ne_eqb t u (λ e. ne (sym e)))))

-- A pinned pixel has one code.
module _ (m : Meaning) (lawful : Lawful m) (pin : Option ℕ) (code : ℕ) (is : pin ≡ Some code) (s : ℕ) where
  barred : (c : ℕ) → c ≢ code → permitted m pin s c ≡ None
  barred c ne = ap (λ o. permitted m o s c) is ∙ cond-false _ _ _ (ne_eqb code c (λ e. ne (sym e)))

  pinned : permitted m pin s code ≡ m.step s code
  pinned = ap (λ o. permitted m o s code) is ∙ cond-true _ _ _ (eq-eqb code code refl)

  past : m.codes ≤ code → permitted m pin s code ≡ None
  past h = pinned ∙ lawful.no_such_code s code h

  pub pinned_step : any_below m.codes (λ c. is_some (permitted m pin s c)) ≡ is_some (m.step s code)
  pinned_step =
      one_counts (λ c b. b || is_some (permitted m pin s c)) (λ n. any_below n (λ c. is_some (permitted m pin s c))) (λ n. refl) m.codes code
      (λ c ne. ap (λ o. any_below c (λ d. is_some (permitted m pin s d)) || is_some o) (barred c ne) ∙ or-false _)
      (λ h. ap is_some (past h))
      ∙ ap is_some pinned

  pub pinned_bids : {C : Type 0} (k : Kind C) (cost : C) (wanted : Levels) (xs : List (Cell C)) →
      indexed (λ t. tried k s code (offer k cost (stage m k wanted None) t s code)) xs ≡ indexed (λ t. tried_codes k s (offer k cost (stage m k wanted pin) t s) m.codes) xs
  pinned_bids {C} k cost wanted xs = ap (λ F. indexed F xs) (fun_ext λ t. fun_ext λ x. sym (alone t x))
    where
      p : Stage C
      p = stage m k wanted pin

      alone : (t : ℕ) (x : Cell C) → tried_codes k s (offer k cost p t s) m.codes x ≡ tried k s code (offer k cost (stage m k wanted None) t s code) x
      alone t x =
          one_counts (λ c. tried k s c (offer k cost p t s c)) (λ n. tried_codes k s (offer k cost p t s) n x) (λ n. refl) m.codes code
          (λ c ne. no_bid k cost p s c (barred c ne) t _)
          (λ h. no_bid k cost p s code (past h) t x)
          ∙ ap (λ o. tried k s code o x) (offered k cost p s code t (m.step s code) pinned)

-- The next column after the bids of the states below s, and one state more.
module _ {C : Type 0} (k : Kind C) (S K : ℕ) (column : List (Cell C)) (p : Stage C) where
  abbrev pub standing : ℕ → List (Cell C)
  standing s = map (λ t. survivor k K (bid k column p t) s) (range_with_len 0 S)

  pub standing_reached : (s : ℕ) (x : Cell C) → x ≡ at k column s → x.reached ≡ true →
      indexed (λ t. tried_codes k s (offer k x.cost p t s) K) (standing s) ≡ standing (s + 1)
  standing_reached s x is r =
      indexed-map (λ t. tried_codes k s (offer k x.cost p t s) K) (λ t. survivor k K (bid k column p t) s) S
      ∙ ap (λ f. map f (range_with_len 0 S)) (fun_ext λ t. ap (λ bids. tried_codes k s bids K (survivor k K (bid k column p t) s)) (fun_ext (bids t)))
      ∙ ap standing (sym (add-one s))
    where
      bids : (t c : ℕ) → offer k x.cost p t s c ≡ bid k column p t s c
      bids t c =
          ap (λ r. cond (r && leads (p.next s c) t) (Some (k.join x.cost (p.price c t))) None) (sym r)
          ∙ ap (λ (y : Cell C). cond (y.reached && leads (p.next s c) t) (Some (k.join y.cost (p.price c t))) None) is

  pub standing_unreached : (s : ℕ) (x : Cell C) → x ≡ at k column s → x.reached ≡ false → standing s ≡ standing (s + 1)
  standing_unreached s x is r =
      ap (λ f. map f (range_with_len 0 S)) (fun_ext λ t.
      sym (none_counts (λ c. tried k s c (bid k column p t s c)) (after t) (λ n. refl) K (λ c h. ap (λ o. tried k s c o (after t c)) (free t c))))
      ∙ ap standing (sym (add-one s))
    where
      after : ℕ → ℕ → Cell C
      after t n = tried_codes k s (bid k column p t s) n (survivor k K (bid k column p t) s)

      free : (t c : ℕ) → bid k column p t s c ≡ None
      free t c =
          ap (λ b. cond (b && leads (p.next s c) t) (Some (k.join (at k column s).cost (p.price c t))) None) (ap (λ (y : Cell C). y.reached) (sym is) ∙ r)
