-- Column n + 1, state by state.
use Rattle.std.proofs.Common.{◌≡◌, ℕ, ◌+◌, ◌<◌, true, false, List, length, get_or, replicate, ap, ◌∙◌}
use Rattle.std.proofs.lemmas.List.{get_or_read}
use Rattle.cost.specs.Kind.{Kind}
use Rattle.viterbi.specs.declared.Cell.{Cell}
use Rattle.viterbi.specs.Columns.{at, blank, tried_codes}
use Rattle.viterbi.specs.Ways.{Stage}
use Rattle.trellis.specs.Bids.{indexed, offer}
use Rattle.trellis.proofs.Bidding.{standing, standing_reached, standing_unreached}
use Rattle.trellis.proofs.Writing.{replicate-range_with_len}

module _ {C : Type 0} (k : Kind C) (S K : ℕ) (column : List (Cell C)) (p : Stage C) where
  -- the next column is cleared
  pub no_states : (next : List (Cell C)) (n : ℕ) → next ≡ replicate n (blank k) → n ≡ S → next ≡ standing k S K column p 0
  no_states next n clear long = clear ∙ ap (λ i. replicate i (blank k)) long ∙ replicate-range_with_len (blank k) 0 S

  -- state s, which has the cell x, makes its bids
  module _ (s : ℕ) (x : Cell C) (below : s < length column) (read : x ≡ get_or column s x) (next : List (Cell C)) (so_far : next ≡ standing k S K column p s) where
    from : x ≡ at k column s
    from = get_or_read column s x below read (blank k)

    pub one_unreached : x.reached ≡ false → next ≡ standing k S K column p (s + 1)
    one_unreached r = so_far ∙ standing_unreached k S K column p s x from r

    pub one_reached : (ys : List (Cell C)) → x.reached ≡ true → ys ≡ indexed (λ t. tried_codes k s (offer k x.cost p t s) K) next → ys ≡ standing k S K column p (s + 1)
    one_reached ys r e = e ∙ ap (indexed _) so_far ∙ standing_reached k S K column p s x from r
