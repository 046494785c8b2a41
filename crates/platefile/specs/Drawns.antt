-- What drawing a line comes to.
use Rattle.std.specs.Prelude.{◌≡◌, ℕ, ◌+◌, List, Ok, Err, vec_items, Result}
use Rattle.cost.specs.Kind.{Kind}
use Rattle.display.specs.Machine.{Meaning}
use Rattle.run.specs.Account.{Wanted, ClosedLine}
use Rattle.run.specs.Rivals.{Best}
use Rattle.trellis.specs.declared.plate.Plate.{Plate}
use Rattle.platefile.specs.declared.drawing.DrawnLine.{DrawnLine}
use Rattle.one_line.specs.declared.error.DrawError.{DrawError}
use Rattle.one_line.specs.declared.error.DrawError.TheVariants.{Refused, NoMemory}
use Rattle.one_line.specs.Drawing.{drawn_line}

module _ {C : Type 0} (m : Meaning) (k : Kind C) where
  module _ (cells width : ℕ) (pixels : List Wanted) (plate : Plate C) where
    -- the line is the one drawn, the best of its rivals, and the plate has it
    pub record Draws (after : Plate C) (line : ClosedLine C) : Type 0 where
      pub drawn : drawn_line m k cells plate.lines width pixels ≡ Ok line
      pub best : Best m k line
      pub counted : after ≡ record { lines = plate.lines + 1; total = k.join plate.total line.cost }

    -- the plate's next line, or its first refusal, or no memory; the last two leave the plate
    abbrev pub DrawnRight : Plate C → Result (DrawnLine C) DrawError → Type 0
    DrawnRight after (Ok line) =
        (line.number ≡ plate.lines) × Draws after (record { pixels = pixels; codes = vec_items line.codes; preview = vec_items line.preview; cost = line.cost })
    DrawnRight after (Err (Refused fault)) = (drawn_line m k cells plate.lines width pixels ≡ Err fault) × (after ≡ plate)
    DrawnRight after (Err (NoMemory lack)) = after ≡ plate
