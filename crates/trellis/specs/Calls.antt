-- The calls on a plate: their checks in order, what they answer, and what they leave.
use Rattle.std.specs.Prelude.{ℕ, ◌+◌, ◌-◌, ◌*◌, min, cond, ◌||◌, List, length, Some, None, Ok, Err, Option, Result, ◌==◌, nat_le, nat_lt}
use Rattle.std.specs.Option.{unwrap_or}
use Rattle.cost.specs.Kind.{Kind}
use Rattle.display.specs.Colours.{levels_of}
use Rattle.display.specs.Machine.{Meaning}
use Rattle.display.specs.declared.colour.Target.{Target}
use Rattle.lines.specs.Checks.{and_then, left, with_front}
use Rattle.lines.specs.declared.fault.Fault.{Fault}
use Rattle.lines.specs.declared.fault.Fault.TheVariants.{PlateFull, BadWidth, TooFewCells, LineFull, LineEmpty, UnknownCode, NoWay, ShortBuffer, BrokenCells}
use Rattle.viterbi.specs.declared.Cell.{Cell}
use Rattle.viterbi.specs.Columns.{pick}
use Rattle.trellis.specs.declared.plate.Plate.{Plate}
use Rattle.trellis.specs.declared.plate.OpenLine.{OpenLine}
use Rattle.trellis.specs.Cells.{column_at, begun, extended, can_extend, cell_at, sound_back, codes_back, colours_back}

-- how many lines a plate holds, and how wide a line may be
abbrev pub line_limit : ℕ
line_limit = 1024

abbrev pub widest : ℕ
widest = 640

-- how many pixels an open line has so far
abbrev pub pixels_of : {C : Type 0} → OpenLine C → ℕ
pixels_of line = line.width - line.left

-- The checks, by number. `pixels` is how many pixels the line has so far.

-- 1: the plate has all its lines
abbrev pub plate_full : ℕ → Option Fault
plate_full lines = cond (nat_le line_limit lines) (Some PlateFull) None

-- 2: the width is 0 or too large
abbrev pub bad_width : ℕ → Option Fault
bad_width width = cond (width == 0 || nat_lt widest width) (Some BadWidth) None

-- 3: there are fewer than (width + 1) × S cells
abbrev pub too_few_cells : ℕ → ℕ → ℕ → ℕ → Option Fault
too_few_cells S cells width pixels = cond (nat_lt cells ((width + 1) * S)) (Some (TooFewCells pixels)) None

-- 4: the line has its width
abbrev pub line_full : ℕ → ℕ → Option Fault
line_full width pixels = cond (nat_le width pixels) (Some (LineFull pixels)) None

-- 5: the line has no pixel
abbrev pub line_empty : ℕ → Option Fault
line_empty pixels = cond (pixels == 0) (Some LineEmpty) None

-- 7: a pin's code is K or more
abbrev pub unknown_pin : ℕ → Option ℕ → ℕ → Option Fault
unknown_pin K None pixels = None
unknown_pin K (Some code) pixels = cond (nat_le K code) (Some (UnknownCode pixels)) None

-- 9: a buffer is shorter than the line
abbrev pub short_buffers : ℕ → ℕ → ℕ → Option Fault
short_buffers codes preview pixels = cond (nat_lt codes pixels || nat_lt preview pixels) (Some (ShortBuffer pixels)) None

-- the checks of start, those of pixel and pin before number 8, and those of close before number 11, in order
abbrev pub start_check : Meaning → ℕ → ℕ → ℕ → Option Fault
start_check m cells lines width =
    and_then (plate_full lines) (and_then (bad_width width) (too_few_cells m.states cells width 0))

abbrev pub early_check : Meaning → ℕ → ℕ → Option ℕ → ℕ → Option Fault
early_check m cells width pin pixels =
    and_then (too_few_cells m.states cells width pixels) (and_then (line_full width pixels) (unknown_pin m.codes pin pixels))

abbrev pub ready_check : Meaning → ℕ → ℕ → ℕ → ℕ → ℕ → Option Fault
ready_check m cells width codes preview pixels =
    and_then (too_few_cells m.states cells width pixels) (and_then (line_empty pixels) (short_buffers codes preview pixels))

-- where a call that is refused gives back what it took
abbrev pub answer_back : {A B : Type 0} → Option Fault → A → B → Result A (B × Fault)
answer_back None result back = Ok result
answer_back (Some fault) result back = Err (back, fault)

-- the plate with one more line; the count would stop at 65,535, which no plate comes near
abbrev pub with_line : {C : Type 0} → Kind C → Plate C → C → Plate C
with_line k plate cost = record { lines = min (plate.lines + 1) 65535; total = k.join plate.total cost }

module _ {C : Type 0} (m : Meaning) (k : Kind C) where
  -- Start opens an empty line and writes column 0.
  abbrev pub started : Plate C → List (Cell C) → ℕ → Result (OpenLine C) (Plate C × Fault)
  started plate cells width =
      answer_back (start_check m (length cells) plate.lines width) (record { plate = plate; width = width; left = width }) plate

  abbrev pub started_cells : Plate C → List (Cell C) → ℕ → List (Cell C)
  started_cells plate cells width = left (start_check m (length cells) plate.lines width) (begun m k cells) cells

  -- 8: from the last column no permitted code leads on
  abbrev pub no_way : Target → Option ℕ → ℕ → List (Cell C) → Option Fault
  no_way target pin pixels cells = cond (can_extend m k pin (levels_of target) pixels cells) None (Some (NoWay pixels))

  -- Pixel and pin add a pixel and write the next column; a pixel has no pin.
  abbrev pub add_check : OpenLine C → List (Cell C) → Target → Option ℕ → Option Fault
  add_check line cells target pin =
      and_then (early_check m (length cells) line.width pin (pixels_of line)) (no_way target pin (pixels_of line) cells)

  abbrev pub added : OpenLine C → List (Cell C) → Target → Option ℕ → OpenLine C
  added line cells target pin =
      left (add_check line cells target pin) (record { plate = line.plate; width = line.width; left = line.left - 1 }) line

  abbrev pub added_cells : OpenLine C → List (Cell C) → Target → Option ℕ → List (Cell C)
  added_cells line cells target pin =
      left (add_check line cells target pin) (extended m k (levels_of target) pin (pixels_of line) cells) cells

  -- the state that close picks, or state 0 where it finds none
  abbrev pub picked_state : ℕ → List (Cell C) → ℕ
  picked_state n cells = unwrap_or (pick k (column_at m.states n cells) m.states) 0

  -- 11: nothing can be picked, or the way back from the pick is not sound
  abbrev pub broken_from : ℕ → List (Cell C) → Option ℕ → Option Fault
  broken_from n cells None = Some (BrokenCells n)
  broken_from n cells (Some last) = cond (sound_back m k cells n last) None (Some (BrokenCells n))

  abbrev pub broken_cells : ℕ → List (Cell C) → Option Fault
  broken_cells n cells = broken_from n cells (pick k (column_at m.states n cells) m.states)

  -- Close picks a state, follows the cells back, and joins the picked cell's cost to the total on the right.
  abbrev pub close_check : OpenLine C → List (Cell C) → List ℕ → List ℕ → Option Fault
  close_check line cells codes preview =
      and_then (ready_check m (length cells) line.width (length codes) (length preview) (pixels_of line)) (broken_cells (pixels_of line) cells)

  abbrev pub line_cost : OpenLine C → List (Cell C) → C
  line_cost line cells = (cell_at m k (pixels_of line) (picked_state (pixels_of line) cells) cells).cost

  abbrev pub closed : OpenLine C → List (Cell C) → List ℕ → List ℕ → Result (Plate C × C) (OpenLine C × Fault)
  closed line cells codes preview =
      answer_back (close_check line cells codes preview) (with_line k line.plate (line_cost line cells), line_cost line cells) line

  abbrev pub closed_codes : OpenLine C → List (Cell C) → List ℕ → List ℕ → List ℕ
  closed_codes line cells codes preview =
      left (close_check line cells codes preview) (with_front (codes_back m k cells (pixels_of line) (picked_state (pixels_of line) cells)) codes) codes

  abbrev pub closed_preview : OpenLine C → List (Cell C) → List ℕ → List ℕ → List ℕ
  closed_preview line cells codes preview =
      left (close_check line cells codes preview) (with_front (colours_back m k cells (pixels_of line) (picked_state (pixels_of line) cells)) preview) preview

-- Back strikes the last pixel.
abbrev pub struck : {C : Type 0} → OpenLine C → OpenLine C
struck line =
    left (line_empty (pixels_of line)) (record { plate = line.plate; width = line.width; left = line.left + 1 }) line
