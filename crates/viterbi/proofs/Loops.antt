-- How a loop over states and their codes fills the next column in place.
use Rattle.std.proofs.Common.{◌≡◌, ℕ, zero, suc, ◌<◌, Bool, true, false, cond, ◌&&◌, List, length, set, replicate, Some, None, Option, sym, refl, ap, ◌∙◌, subst, ap₂, ⊎_elim, length-set, get_or-set_other, get_or-set_same}
use lib.ListN.{length-replicate, get_or-replicate}
use Rattle.std.proofs.lemmas.List.FromFn.{fill_by_all}
use Rattle.std.proofs.lemmas.Bool.{cases_eq, eq-eqb, ne_eqb}
use Rattle.cost.specs.Kind.{Kind}
use Rattle.viterbi.specs.declared.Cell.{Cell}
use Rattle.viterbi.specs.Ways.{Stage}
use Rattle.viterbi.specs.Columns.{leads, blank, at, tried, tried_codes, survivor, bid, next_column}

-- no bid leaves the cell
quiet : {C : Type 0} (k : Kind C) (s n : ℕ) (bids : ℕ → Option C) (cell : Cell C) → ((c : ℕ) → bids c ≡ None) → tried_codes k s bids n cell ≡ cell
quiet k s zero bids cell none = refl
quiet k s (suc n) bids cell none = ap (λ b. tried k s n b (tried_codes k s bids n cell)) (none n) ∙ quiet k s n bids cell none

mute : {C : Type 0} (b l : Bool) (x : Option C) → l ≡ false → cond (b && l) x None ≡ None
mute true l x e = rw e
mute false l x e = refl

module _ {C : Type 0} (k : Kind C) (S K : ℕ) (column : List (Cell C)) (p : Stage C) where
  -- what t keeps after the states below s, and then the codes of s below c
  abbrev pub so_far : ℕ → ℕ → ℕ → Cell C
  so_far s c t = tried_codes k s (bid k column p t s) c (survivor k K (bid k column p t) s)

  -- a row of S cells that keep so much
  pub record Filled (s c : ℕ) (row : List (Cell C)) : Type 0 where
    pub long : length row ≡ S
    pub kept : (t : ℕ) → t < S → at k row t ≡ so_far s c t

  pub filled_none : Filled 0 0 (replicate S (blank k))
  filled_none = record { long = length-replicate S (blank k); kept = λ t h. get_or-replicate S t (blank k) (blank k) h }

  module _ (s c : ℕ) (row : List (Cell C)) (f : Filled s c row) where
    stays : (t : ℕ) → leads (p.next s c) t ≡ false → so_far s c t ≡ so_far s (suc c) t
    stays t e = ap (λ b. tried k s c b (so_far s c t)) (sym (mute (at k column s).reached (leads (p.next s c) t) _ e))

    -- a code that leads to u
    pub filled_code : (u : ℕ) → u < S → (at k column s).reached ≡ true → p.next s c ≡ Some u →
        Filled s (suc c) (set row u (tried k s c (Some (k.join (at k column s).cost (p.price c u))) (at k row u)))
    filled_code u h r g =
        let x = k.join (at k column s).cost (p.price c u) in
        let new = tried k s c (Some x) (at k row u) in
        let made : Some x ≡ bid k column p u s c = cc (eq-eqb u u refl) in
        record {
          long = length-set row u new ∙ f.long;
          kept = λ t below.
              ⊎_elim (λ e. subst (λ v. at k (set row u new) v ≡ so_far s (suc c) v) (sym e)
              (get_or-set_same row u new (blank k) (rw f.long h) ∙ ap₂ (tried k s c) made (f.kept u h)))
              (λ ne. get_or-set_other row u t new (blank k) ne ∙ f.kept t below ∙ stays t (cc (ne_eqb u t (λ e. ne (sym e)))))
              (cases_eq t u);
        }

    -- a code that is not permitted
    pub filled_skip : p.next s c ≡ None → Filled s (suc c) row
    filled_skip g = record { long = f.long; kept = λ t below. f.kept t below ∙ stays t (cc) }

  -- all codes of a state
  pub filled_state : (s : ℕ) (row : List (Cell C)) → Filled s K row → Filled (suc s) 0 row
  filled_state s row f = record { long = f.long; kept = f.kept }

  -- a state that is not reached
  pub filled_past : (s : ℕ) (row : List (Cell C)) → (at k column s).reached ≡ false → Filled s 0 row → Filled (suc s) 0 row
  filled_past s row r f = record {
    long = f.long;
    kept = λ t below. f.kept t below ∙ sym (quiet k s K (bid k column p t s) _ (λ c. cc));
  }

  -- all states
  pub filled_all : (row : List (Cell C)) → Filled S 0 row → row ≡ next_column k S K column p
  filled_all row f = fill_by_all (λ t. survivor k K (bid k column p t) S) row S (blank k) f.long f.kept
