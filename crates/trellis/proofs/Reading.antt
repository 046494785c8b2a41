-- Columns of the cells: which there are.
use Rattle.std.proofs.Common.{◌≡◌, ℕ, ◌+◌, ◌*◌, ◌≤◌, List, length, drop, arith}
use Rattle.std.proofs.lemmas.List.{length-drop, length-take-le}
use Rattle.std.proofs.lemmas.Nat.{mul-le}
use Rattle.viterbi.specs.declared.Cell.{Cell}
use Rattle.trellis.specs.Cells.{column_at}

-- where column n is whole, so is each before it
pub column_before : (S n len i : ℕ) → n * S + S ≤ len → i ≤ n → i * S + S ≤ len
column_before S n len i whole before = omega (arith, mul-le i S n S before (omega arith))

-- and it has a cell for each state
pub column_length : {C : Type 0} (S n : ℕ) (cells : List (Cell C)) → n * S + S ≤ length cells → length (column_at S n cells) ≡ S
column_length S n cells whole = length-take-le S (drop (n * S) cells) (omega (arith, length-drop (n * S) cells))
