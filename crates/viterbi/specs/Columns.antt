-- The columns of a line: for each state the cheapest way to it, by the last step of that way.
use Rattle.std.specs.Prelude.{◌≡◌, ℕ, zero, suc, ◌<◌, ◌≤◌, Bool, true, false, cond, not, ◌&&◌, ◌||◌, ◌⊎◌, List, [], ◌∷◌, map, replicate, is_some, Some, None, Option, ◌==◌, slice_index_or, slice_set}
use Rattle.std.specs.List.{range_with_len}
use Rattle.cost.specs.Kind.{Kind, AtMost}
use Rattle.viterbi.specs.declared.Cell.{Cell}
use Rattle.viterbi.specs.Ways.{Stage}

-- the state that a code leads to is t
abbrev pub leads : Option ℕ → ℕ → Bool
leads None t = false
leads (Some u) t = u == t

-- the pair (s, c) is no later than (t, d)
abbrev pub NoLater : ℕ → ℕ → ℕ → ℕ → Type 0
NoLater s c t d = (s < t) ⊎ ((s ≡ t) × (c ≤ d))

-- f holds of some number below n
abbrev pub any_below : ℕ → (ℕ → Bool) → Bool
any_below zero f = false
any_below (suc n) f = any_below n f || f n

module _ {C : Type 0} (k : Kind C) where
  -- a cell that is not reached
  abbrev pub blank : Cell C
  blank = record { reached = false; cost = k.zero; prev = 0; code = 0 }

  -- the start state's cell in column 0
  abbrev pub origin : Cell C
  origin = record { reached = true; cost = k.zero; prev = 0; code = 0 }

  -- the cell of state s
  abbrev pub at : List (Cell C) → ℕ → Cell C
  at column s = slice_index_or column s blank

  -- Pairs of a state and a code bid for a cell, which keeps the first of the cheapest bids.

  -- the cell after (s, c) made its bid, which takes the cell if it is free or held at a greater cost
  abbrev pub tried : ℕ → ℕ → Option C → Cell C → Cell C
  tried s c None cell = cell
  tried s c (Some x) cell =
      cond (cell.reached && k.at_most cell.cost x) cell (record { reached = true; cost = x; prev = s; code = c })

  -- after the bids of state s by its codes below n, in order
  abbrev pub tried_codes : ℕ → (ℕ → Option C) → ℕ → Cell C → Cell C
  tried_codes s bids zero cell = cell
  tried_codes s bids (suc c) cell = tried s c (bids c) (tried_codes s bids c cell)

  -- after the bids of the states below n, in order, by their codes below K
  abbrev pub survivor : ℕ → (ℕ → ℕ → Option C) → ℕ → Cell C
  survivor K bids zero = blank
  survivor K bids (suc s) = tried_codes s (bids s) K (survivor K bids s)

  -- The same as a relation, where Bids s c x says that (s, c) bids x: no bid and a blank cell, or the first of the cheapest.
  pub record Won (Bids : ℕ → ℕ → C → Type 0) (cell : Cell C) : Type 0 where
    pub held : cell.reached ≡ true
    pub bids : Bids cell.prev cell.code cell.cost
    pub least : (s c : ℕ) (x : C) → Bids s c x → AtMost k cell.cost x
    pub first : (s c : ℕ) → Bids s c cell.cost → NoLater cell.prev cell.code s c

  -- what a cell keeps of the bids for it
  abbrev pub Survives : (ℕ → ℕ → C → Type 0) → Cell C → Type 0
  Survives Bids cell = ((cell ≡ blank) × ((s c : ℕ) (x : C) → Bids s c x → ⊥)) ⊎ Won Bids cell

  -- (s, c) bids for t if s is reached and c leads from it to t: the cost of s joined with the price of c at t
  abbrev pub bid : List (Cell C) → Stage C → ℕ → ℕ → ℕ → Option C
  bid column p t s c =
      cond ((at column s).reached && leads (p.next s c) t) (Some (k.join (at column s).cost (p.price c t))) None

  -- the cheaper of the state kept so far and state s, which has to be reached; at a tie the one kept so far
  abbrev pub cheaper : List (Cell C) → Option ℕ → ℕ → Option ℕ
  cheaper column None s = cond (at column s).reached (Some s) None
  cheaper column (Some b) s =
      cond ((at column s).reached && not (k.at_most (at column b).cost (at column s).cost)) (Some s) (Some b)

  -- the pick: the cheapest reached state below n, the lowest at a tie
  abbrev pub pick : List (Cell C) → ℕ → Option ℕ
  pick column zero = None
  pick column (suc s) = cheaper column (pick column s) s

  -- the pick as a relation
  pub record Picked (column : List (Cell C)) (n b : ℕ) : Type 0 where
    pub state : b < n
    pub stands : (at column b).reached ≡ true
    pub least : (s : ℕ) → s < n → (at column s).reached ≡ true → AtMost k (at column b).cost (at column s).cost
    pub lowest : (s : ℕ) → s < b → (at column s).reached ≡ true → k.at_most (at column s).cost (at column b).cost ≡ false

  module _ (S : ℕ) where
    -- column 0: only the start is reached
    abbrev pub first_column : ℕ → List (Cell C)
    first_column start = slice_set (replicate S blank) start origin

    module _ (K : ℕ) where
      -- state s is reached, and code c leads from it to t
      pub record Candidate (column : List (Cell C)) (p : Stage C) (t s c : ℕ) (x : C) : Type 0 where
        pub state : s < S
        pub below : c < K
        pub from : (at column s).reached ≡ true
        pub goes : p.next s c ≡ Some t
        pub costs : x ≡ k.join (at column s).cost (p.price c t)

      -- a permitted code leads on from some reached state
      abbrev pub passable : List (Cell C) → Stage C → Bool
      passable column p = any_below S (λ s. (at column s).reached && any_below K (λ c. is_some (p.next s c)))

      -- the next column: for each state what survives of the bids for it
      abbrev pub next_column : List (Cell C) → Stage C → List (Cell C)
      next_column column p = map (λ t. survivor K (bid column p t) S) (range_with_len 0 S)

      module _ (start : ℕ) where
        -- the last column of a line
        abbrev pub last_column : List (Stage C) → List (Cell C)
        last_column [] = first_column start
        last_column (p ∷ ps) = next_column (last_column ps) p

        -- the way back from state t of the last column: its codes, and the states that it comes to, the last first
        abbrev pub traced_codes : List (Stage C) → ℕ → List ℕ
        traced_codes [] t = []
        traced_codes (p ∷ ps) t = let cell = at (last_column (p ∷ ps)) t in cell.code ∷ traced_codes ps cell.prev

        abbrev pub traced_states : List (Stage C) → ℕ → List ℕ
        traced_states [] t = []
        traced_states (p ∷ ps) t = t ∷ traced_states ps (at (last_column (p ∷ ps)) t).prev
