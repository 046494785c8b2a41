-- What the checks of close tell, and what close leaves in the buffers.
use Rattle.std.proofs.Common.{◌≡◌, ℕ, ◌+◌, ◌*◌, ◌≤◌, List, ◌++◌, length, drop, None, Ok, Option, sym, refl, ap, ◌∙◌, arith}
use Rattle.cost.specs.Kind.{Kind}
use Rattle.display.specs.Machine.{Meaning}
use Rattle.lines.specs.Checks.{answer, with_front}
use Rattle.lines.specs.declared.fault.Fault.{Fault}
use Rattle.viterbi.specs.declared.Cell.{Cell}
use Rattle.trellis.specs.declared.plate.OpenLine.{OpenLine}
use Rattle.trellis.specs.Cells.{codes_back, colours_back}
use Rattle.trellis.specs.Calls.{pixels_of, ready_check, broken_cells, picked_state, close_check, closed_codes, closed_preview}
use Rattle.trellis.proofs.Reading.{column_before}
use Rattle.trellis.proofs.Checking.{Told, told, told_result, renewed, later_says, ready_passed}
use Rattle.trellis.proofs.Back.{length_back}

front_at : (back : ℕ → ℕ → List ℕ) → ((n s : ℕ) → length (back n s) ≡ n) → (n s i t : ℕ) (buffer : List ℕ) → n ≡ i → s ≡ t → back n s ++ drop n buffer ≡ with_front (back i t) buffer
front_at back sized n s i t buffer e f = cc (sized i t)

module _ {C : Type 0} (m : Meaning) (k : Kind C) (line : OpenLine C) (cells : List (Cell C)) (codes preview : List ℕ) (pixels : ℕ) (is : pixels ≡ pixels_of line) where
  abbrev ready : Option Fault
  ready = ready_check m (length cells) line.width (length codes) (length preview) (pixels_of line)

  module _ (e : Told None ready) where
    -- the last column is whole
    pub ready_whole : pixels * m.states + m.states ≤ length cells
    ready_whole =
        let p = ready_passed m (length cells) line.width (length codes) (length preview) (pixels_of line) (told None ready tt tt e) in
        column_before m.states line.width (length cells) pixels p.0 (omega arith)

    -- `last` is the state picked
    module _ (last : ℕ) (f : Ok last ≡ answer (broken_cells m k pixels cells) (picked_state m k pixels cells)) where
      abbrev picked : ℕ
      picked = picked_state m k (pixels_of line) cells

      none : close_check m k line cells codes preview ≡ None
      none =
          let found = told None (broken_cells m k pixels cells) (picked_state m k pixels cells) last f in
          later_says ready (broken_cells m k (pixels_of line) cells) None (told None ready tt tt e) (ap (λ n. broken_cells m k n cells) (sym is) ∙ found)

      is_picked : last ≡ picked
      is_picked = told_result (broken_cells m k pixels cells) (picked_state m k pixels cells) last f ∙ ap (λ n. picked_state m k n cells) is

      pub codes_written : (cs : List ℕ) → cs ≡ codes_back m k cells pixels last ++ drop pixels codes → cs ≡ closed_codes m k line cells codes preview
      codes_written cs front =
          let sized = length_back m k cells (codes_back m k cells) (λ _ cell. cell.code) (λ _. refl) (λ _ _. refl) in
          front ∙ front_at (codes_back m k cells) sized pixels last (pixels_of line) picked codes is is_picked ∙ renewed _ (with_front (codes_back m k cells (pixels_of line) picked) codes) codes none

      pub preview_written : (ps : List ℕ) → ps ≡ colours_back m k cells pixels last ++ drop pixels preview → ps ≡ closed_preview m k line cells codes preview
      preview_written ps shown =
          let sized = length_back m k cells (colours_back m k cells) (λ s _. m.shown s) (λ _. refl) (λ _ _. refl) in
          shown ∙ front_at (colours_back m k cells) sized pixels last (pixels_of line) picked preview is is_picked ∙ renewed _ (with_front (colours_back m k cells (pixels_of line) picked) preview) preview none
