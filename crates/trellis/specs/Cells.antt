-- Where columns lie in a list of cells: S cells each, one column after the other.
use Rattle.std.specs.Prelude.{ℕ, zero, suc, ◌+◌, ◌*◌, Bool, ◌&&◌, List, [], ◌∷◌, ◌++◌, length, take, drop, Option, ◌==◌}
use Rattle.cost.specs.Kind.{Kind}
use Rattle.display.specs.Machine.{Meaning}
use Rattle.display.specs.declared.colour.Levels.{Levels}
use Rattle.viterbi.specs.declared.Cell.{Cell}
use Rattle.viterbi.specs.Columns.{at, leads, first_column, next_column, passable}
use Rattle.trellis.specs.Stages.{stage}

-- column n: the S cells from number n × S on
abbrev pub column_at : {C : Type 0} → ℕ → ℕ → List (Cell C) → List (Cell C)
column_at S n cells = take S (drop (n * S) cells)

-- xs with ys in place of what stands from place a on
abbrev pub written : {X : Type 0} → ℕ → List X → List X → List X
written a ys xs = take a xs ++ (ys ++ drop (a + length ys) xs)

module _ {C : Type 0} (m : Meaning) (k : Kind C) where
  -- the cells after column 0 is written
  abbrev pub begun : List (Cell C) → List (Cell C)
  begun cells = written 0 (first_column k m.states m.start) cells

  -- the cells after column n + 1 is written from column n
  abbrev pub extended : Levels → Option ℕ → ℕ → List (Cell C) → List (Cell C)
  extended wanted pin n cells =
      written (n * m.states + m.states) (next_column k m.states m.codes (column_at m.states n cells) (stage m k wanted pin)) cells

  -- from column n a permitted code leads on
  abbrev pub can_extend : Option ℕ → Levels → ℕ → List (Cell C) → Bool
  can_extend pin wanted n cells = passable k m.states m.codes (column_at m.states n cells) (stage m k wanted pin)

  -- the cell of state s in column n
  abbrev pub cell_at : ℕ → ℕ → List (Cell C) → Cell C
  cell_at n s cells = at k (column_at m.states n cells) s

  -- the way back from state s of column n is sound: each cell is reached, each step is one that the machine makes, and it ends at the start
  abbrev pub sound_back : List (Cell C) → ℕ → ℕ → Bool
  sound_back cells zero s = (cell_at 0 s cells).reached && s == m.start
  sound_back cells (suc n) s =
      let cell = cell_at (suc n) s cells in
      (cell.reached && leads (m.step cell.prev cell.code) s) && sound_back cells n cell.prev

  -- the n codes on the way back, and the colours after each, from left to right
  abbrev pub codes_back : List (Cell C) → ℕ → ℕ → List ℕ
  codes_back cells zero s = []
  codes_back cells (suc n) s = codes_back cells n (cell_at (suc n) s cells).prev ++ (cell_at (suc n) s cells).code ∷ []

  abbrev pub colours_back : List (Cell C) → ℕ → ℕ → List ℕ
  colours_back cells zero s = []
  colours_back cells (suc n) s = colours_back cells n (cell_at (suc n) s cells).prev ++ m.shown s ∷ []
