-- One step on the way back: from state s of column i, which is the state of the cell given, to column i - 1.
use Rattle.std.proofs.Common.{◌≡◌, ℕ, zero, suc, ◌+◌, ◌-◌, ◌<◌, ◌≤◌, Bool, ◌&&◌, List, [], ◌∷◌, ◌++◌, length, drop, set, ap, ◌∙◌, add-one, sub-one, arith}
use Rattle.std.proofs.lemmas.List.{append_assoc, drop-set, length_push}
use Rattle.cost.specs.Kind.{Kind}
use Rattle.display.specs.Machine.{Meaning}
use Rattle.viterbi.specs.declared.Cell.{Cell}
use Rattle.viterbi.specs.Columns.{leads}
use Rattle.trellis.specs.Cells.{cell_at, sound_back}

module _ {C : Type 0} (m : Meaning) (k : Kind C) (cells : List (Cell C)) where
  pub sound_step : (i s : ℕ) (cell : Cell C) (sound : Bool) → 0 < i → cell ≡ cell_at m k (i - 1 + 1) s cells → sound ≡ (cell.reached && leads (m.step cell.prev cell.code) s) → sound_back m k cells i s ≡ (sound && sound_back m k cells (i - 1) cell.prev)
  sound_step zero s cell sound pos is so = absurd (omega arith)
  sound_step (suc i) s cell sound pos is so = simp (so, is, add-one, sub-one)

  -- back lists f of each state and its cell on the way back; ys has what follows column i already, and takes one more
  pub written_step : {X : Type 0} (back : ℕ → ℕ → List X) (f : ℕ → Cell C → X) → ((i s : ℕ) → let cell = cell_at m k (suc i) s cells in back (suc i) s ≡ back i cell.prev ++ f s cell ∷ []) → (i s : ℕ) (cell : Cell C) (ys : List X) → 0 < i → i ≤ length ys → cell ≡ cell_at m k (i - 1 + 1) s cells → back (i - 1) cell.prev ++ drop (i - 1) (set ys (i - 1) (f s cell)) ≡ back i s ++ drop i ys
  written_step back f grows zero s cell ys pos within is = absurd (omega arith)
  written_step back f grows (suc i) s cell ys pos within is = simp (is, add-one, sub-one, drop-set, grows, append_assoc)

  -- back has one for each pixel
  pub length_back : {X : Type 0} (back : ℕ → ℕ → List X) (f : ℕ → Cell C → X) → ((s : ℕ) → back 0 s ≡ []) → ((i s : ℕ) → let cell = cell_at m k (suc i) s cells in back (suc i) s ≡ back i cell.prev ++ f s cell ∷ []) → (n s : ℕ) → length (back n s) ≡ n
  length_back back f none grows zero s = ap length (none s)
  length_back back f none grows (suc n) s =
      let cell = cell_at m k (suc n) s cells in
      let rest = length_back back f none grows n cell.prev in
      ap length (grows n s) ∙ length_push (back n cell.prev) (f s cell) ∙ rw (rest, add-one)
