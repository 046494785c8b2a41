-- What a plate file comes to, from its first byte on.
use Rattle.std.specs.Prelude.{◌≡◌, ℕ, List, [], drop, Ok, Err, Result}
use Rattle.cost.specs.Kind.{Kind}
use Rattle.cost.specs.Kinds.{summed, worst, pair}
use Rattle.records.specs.declared.display_kind.CostKind.TheVariants.{Summed as by_sum, Worst as by_worst, Pair as by_pair}
use Rattle.records.specs.declared.heading.Heading.{Heading}
use Rattle.platefile.specs.declared.opening.Opened.{Opened}
use Rattle.platefile.specs.declared.opening.Opened.TheVariants.{Summed, Worst, Pair}
use Rattle.platefile.specs.declared.error.FileError.{FileError}
use Rattle.platefile.specs.declared.error.FileError.TheVariants.{Fault, NoMemory}
use Rattle.platefile.specs.declared.reader.Lines.{Lines}
use Rattle.records.specs.Letters.{meaning_of}
use Rattle.records.specs.Headings.{heading}
use Rattle.platefile.specs.Files.{Output, outputs, Kept}
use Rattle.platefile.specs.Reading.{left_outputs}

-- what comes out of a file under this heading, by this cost kind, with so many cells: from a new plate on
abbrev pub file_outputs : {C : Type 0} → Kind C → Heading → List ℕ → ℕ → List (Output C)
file_outputs k h input cells = outputs (meaning_of h.display) k cells h.colours h.width h.at (drop h.at input) 0 k.zero

-- the lines to come are those of the file, and they keep the promise
pub record LinesRight {C : Type 0} (k : Kind C) (h : Heading) (input : List ℕ) (cells : ℕ) (lines : Lines C) : Type 0 where
  pub outs : left_outputs k lines ≡ file_outputs k h input cells
  pub under : lines.heading ≡ h
  pub kept : Kept (meaning_of h.display) k cells h.colours h.width [] (file_outputs k h input cells)

-- the file has this heading, and its lines are to come
pub record LinesOpened {C : Type 0} (k : Kind C) (limit : ℕ) (input : List ℕ) (cells : ℕ) (h : Heading) (lines : Lines C) : Type 0 where
  pub headed : heading limit input ≡ Ok h
  pub right : LinesRight k h input cells lines

-- what opening a file comes to: its lines by the kind that the header names, or the fault of its heading
abbrev pub OpenedRight : ℕ → List ℕ → ℕ → Result Opened FileError → Type 0
OpenedRight limit input cells (Ok (Summed lines)) = (h : Heading) × (h.cost ≡ by_sum) × LinesOpened summed limit input cells h lines
OpenedRight limit input cells (Ok (Worst lines)) = (h : Heading) × (h.cost ≡ by_worst) × LinesOpened worst limit input cells h lines
OpenedRight limit input cells (Ok (Pair lines)) = (h : Heading) × (h.cost ≡ by_pair) × LinesOpened pair limit input cells h lines
OpenedRight limit input cells (Err (Fault fault)) = heading limit input ≡ Err fault
OpenedRight limit input cells (Err (NoMemory lack)) = Unit {0}
