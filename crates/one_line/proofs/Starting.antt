-- What a start says and opens.
use Rattle.std.proofs.Common.{◌≡◌, ℕ, ◌+◌, ◌*◌, ◌<◌, ◌≤◌, List, [], length, OkIff, Some, None, Ok, Err, Option, Result, sym, ap, ◌∙◌, subst, arith}
use Rattle.std.proofs.lemmas.Bool.Decides.{nat_tests}
use Rattle.std.specs.Result.{result_unwrap_or}
use Rattle.cost.specs.Kind.{Kind}
use Rattle.display.specs.Machine.{Meaning}
use Rattle.lines.specs.Checks.{left}
use Rattle.lines.specs.declared.fault.Fault.{Fault}
use Rattle.lines.specs.declared.fault.Fault.TheVariants.{BadWidth}
use Rattle.trellis.specs.Calls.{plate_full, bad_width, too_few_cells, start_check, started, started_cells}
use Rattle.trellis.specs.Cells.{begun}
use Rattle.trellis.specs.declared.plate.OpenLine.{OpenLine}
use Rattle.trellis.specs.declared.plate.Plate.{Plate}
use Rattle.trellis.proofs.Checking.{passed_both, enough_cells}
use Rattle.viterbi.specs.declared.Cell.{Cell}
use Rattle.run.specs.Agreement.{OpenRight}
use Rattle.run.proofs.Opened.{start_opens}
use Rattle.run.proofs.Steps.{taken_back}

-- what a start that is taken says
pub start_passed : (m : Meaning) (cells lines width : ℕ) → start_check m cells lines width ≡ None →
    (lines < 1024) × (0 < width) × (width * m.states + m.states ≤ cells)
start_passed m cells lines width e =
    let p = passed_both (plate_full lines) _ e in
    let q = passed_both (bad_width width) _ p.1 in
    (not_full lines p.0, not_none width q.0, enough_cells m.states cells width 0 q.1)
  where
    not_full : (l : ℕ) → plate_full l ≡ None → l < 1024
    not_full l h = grind (arith, nat_tests)

    not_none : (w : ℕ) → bad_width w ≡ None → 0 < w
    not_none w h = grind (arith, nat_tests)

-- A count of pixels as a width: the number itself, or the most that a u16 counts, which no start takes.
pub same_width : {E : Type 0} (m : Meaning) (cells lines pixels width : ℕ) (r : Result ℕ E) → OkIff r (pixels < 65536) pixels →
    width ≡ result_unwrap_or r 65535 → start_check m cells lines width ≡ None → width ≡ pixels
same_width m cells lines pixels width (Ok x) h is e = is ∙ h.1
same_width m cells lines pixels width (Err other) h is e =
    let starts : start_check m cells lines 65535 ≡ None = ap (start_check m cells lines) (sym is) ∙ e in
    let bad : ◌≡◌ {A = Option Fault} (Some BadWidth) None =
    (passed_both (bad_width 65535) (too_few_cells m.states cells 65535 0) (passed_both (plate_full lines) _ starts).1).0 in
    cc

module _ {C : Type 0} (m : Meaning) (k : Kind C) where
  pub starts_open : (plate : Plate C) (cells after : List (Cell C)) (width : ℕ) (line : OpenLine C) →
      ◌≡◌ {A = Result (OpenLine C) (Plate C × Fault)} (Ok line) (started m k plate cells width) → after ≡ started_cells m k plate cells width →
      (start_check m (length cells) plate.lines width ≡ None) × (line.plate ≡ plate) × OpenRight m k width [] line after
  starts_open plate cells after width line e cells_are =
      let t = taken_back (start_check m (length cells) plate.lines width) _ line plate e in (
        t.0,
        ap (λ l. l.plate) t.1,
        subst (OpenRight m k width [] line) (sym (cells_are ∙ ap (λ ch. left ch (begun m k cells) cells) t.0))
            (subst (λ l. OpenRight m k width [] l (begun m k cells)) (sym t.1) (start_opens m k plate cells width t.0).0),
      )
