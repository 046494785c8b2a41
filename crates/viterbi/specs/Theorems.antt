-- What is proved of the columns, for every lawful cost kind on C.
use Rattle.std.specs.Prelude.{◌≡◌, ℕ, ◌<◌, true, false, ◌↔◌, List, ◌∷◌, Some, None}
use Rattle.std.specs.List.{AllByRecursion}
use Rattle.cost.specs.Kind.{Kind, Lawful, AtMost}
use Rattle.viterbi.specs.declared.Cell.{Cell}
use Rattle.viterbi.specs.Ways.{Stage, Way, codes, states, way_cost}
use Rattle.viterbi.specs.Columns.{at, Survives, Candidate, Picked, pick, passable, next_column, last_column, traced_codes, traced_states}
use Rattle.viterbi.specs.Totals.{total, EachAtMost}

-- the stage leads from states below S, by codes below K, to states below S
abbrev pub Within : {C : Type 0} → ℕ → ℕ → Stage C → Type 0
Within S K p = (s c t : ℕ) → s < S → c < K → p.next s c ≡ Some t → t < S

-- the way back from t is a way from the start to t, which costs x
pub record Traces {C : Type 0} (k : Kind C) (S K start : ℕ) (ps : List (Stage C)) (t : ℕ) (x : C) : Type 0 where
  pub way : Way K start ps t
  pub by_codes : codes way ≡ traced_codes k S K start ps t
  pub by_states : states way ≡ traced_states k S K start ps t
  pub costs : way_cost k way ≡ x

-- b is the state that close picks: the way back from it costs no more than any other way
pub record Best {C : Type 0} (k : Kind C) (S K start : ℕ) (ps : List (Stage C)) (b : ℕ) : Type 0 where
  pub inside : b < S
  pub reached : (at k (last_column k S K start ps) b).reached ≡ true
  pub traces : Traces k S K start ps b (at k (last_column k S K start ps) b).cost
  pub least : (t : ℕ) (w : Way K start ps t) → AtMost k (at k (last_column k S K start ps) b).cost (way_cost k w)

-- Cells, columns and the pick, in words.
pub record ColumnsTheorem (C : Type 0) : Type 0 where
  -- each cell of the next column keeps the first of the cheapest candidates
  pub survives : (k : Kind C) → Lawful k → (S K : ℕ) (column : List (Cell C)) (p : Stage C) (t : ℕ) → t < S →
      Survives k (Candidate k S K column p t) (at k (next_column k S K column p) t)
  -- and there is only one such cell
  pub determined : (k : Kind C) → Lawful k → (S K : ℕ) (column : List (Cell C)) (p : Stage C) (t : ℕ) (x y : Cell C) →
      Survives k (Candidate k S K column p t) x → Survives k (Candidate k S K column p t) y → x ≡ y
  -- the pick is the cheapest reached state, the lowest at a tie
  pub picked : (k : Kind C) → Lawful k → (column : List (Cell C)) (n b : ℕ) → pick k column n ≡ Some b → Picked k column n b
  pub unpicked : (k : Kind C) → Lawful k → (column : List (Cell C)) (n : ℕ) → pick k column n ≡ None → (s : ℕ) → s < n → (at k column s).reached ≡ false

-- A whole line: where its columns lead, and that nothing is cheaper.
pub record LineTheorem (C : Type 0) : Type 0 where
  -- a state of the last column is reached exactly where a way leads to it
  pub reached : (k : Kind C) → Lawful k → (S K start : ℕ) (ps : List (Stage C)) → start < S → AllByRecursion (Within S K) ps → (t : ℕ) →
      ((at k (last_column k S K start ps) t).reached ≡ true) ↔ Way K start ps t
  -- and no way to it costs less
  pub least : (k : Kind C) → Lawful k → (S K start : ℕ) (ps : List (Stage C)) → start < S → AllByRecursion (Within S K) ps → (t : ℕ) →
      (w : Way K start ps t) → AtMost k (at k (last_column k S K start ps) t).cost (way_cost k w)
  -- where a way leads along the line, one is picked, and no way costs less than the way back from it
  pub best : (k : Kind C) → Lawful k → (S K start : ℕ) (ps : List (Stage C)) → start < S → AllByRecursion (Within S K) ps → (t : ℕ) → Way K start ps t →
      (b : ℕ) × (pick k (last_column k S K start ps) S ≡ Some b) × Best k S K start ps b
  -- one more pixel can be passed exactly where a way leads along it too
  pub passes : (k : Kind C) → Lawful k → (S K start : ℕ) (p : Stage C) (ps : List (Stage C)) → start < S → AllByRecursion (Within S K) ps →
      (passable k S K (last_column k S K start ps) p ≡ true) ↔ ((t : ℕ) × Way K start (p ∷ ps) t)
  -- totals grow with the costs in them
  pub totals : (k : Kind C) → Lawful k → (xs ys : List C) → EachAtMost k xs ys → AtMost k (total k xs) (total k ys)
