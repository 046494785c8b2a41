-- How the plate, the open line and the cells stand to the account. No promise names this: it is what each call of a run takes up and leaves.
use Rattle.std.specs.Prelude.{◌≡◌, ℕ, suc, ◌+◌, ◌<◌, ◌≤◌, false, List, [], ◌∷◌, map, length, Ok, Err, Result}
use Rattle.std.specs.List.{AllByRecursion}
use Rattle.cost.specs.Kind.{Kind}
use Rattle.display.specs.Colours.{levels_of}
use Rattle.display.specs.Machine.{Meaning}
use Rattle.lines.specs.declared.fault.Fault.{Fault}
use Rattle.trellis.specs.declared.plate.OpenLine.{OpenLine}
use Rattle.trellis.specs.declared.plate.Plate.{Plate}
use Rattle.trellis.specs.Calls.{line_limit}
use Rattle.trellis.specs.Cells.{column_at}
use Rattle.trellis.specs.Stages.{stage}
use Rattle.viterbi.specs.Columns.{first_column, last_column}
use Rattle.viterbi.specs.Ways.{Stage, Way}
use Rattle.viterbi.specs.declared.Cell.{Cell}
use Rattle.run.specs.declared.state.State.{State}
use Rattle.run.specs.declared.state.State.TheVariants.{Resting, Drawing, Ended}
use Rattle.run.specs.declared.entry.Answer.{Answer}
use Rattle.run.specs.declared.entry.Answer.TheVariants.{Taken}
use Rattle.run.specs.declared.entry.Call.{Call}
use Rattle.run.specs.declared.state.Step.{Step}
use Rattle.run.specs.declared.state.Unanswered.{Unanswered}
use Rattle.run.specs.declared.state.Unanswered.TheVariants.{NotFound, NoMemory}
use Rattle.run.specs.Account.{Wanted, ClosedLine, Stand, resting, drawing, ended, Account, entered, finds}
use Rattle.run.specs.Rivals.{Best, total_of}
use Rattle.run.specs.Promise.{RightAt}

-- the answer of a call that gives nothing but its refusal
abbrev pub plain : {C : Type 0} → Result (Unit {0}) Fault → Result (Answer C) Fault
plain (Ok done) = Ok Taken
plain (Err fault) = Err fault

-- and its step, on the open line
abbrev pub plain_step : {C : Type 0} → OpenLine C → Result (Unit {0}) Fault → Step C
plain_step line done = record { state = Drawing line; answer = Ok (plain done) }

module _ {C : Type 0} (m : Meaning) (k : Kind C) where
  -- the stages of pixels, both with the last first
  abbrev pub stages_of : List Wanted → List (Stage C)
  stages_of pixels = map (λ p. stage m k (levels_of p.target) p.pin) pixels

  -- the cells hold the columns of a line
  abbrev pub Holds : List (Cell C) → List (Stage C) → Type 0
  Holds cells [] = column_at m.states 0 cells ≡ first_column k m.states m.start
  Holds cells (q ∷ qs) =
      (column_at m.states (suc (length qs)) cells ≡ last_column k m.states m.codes m.start (q ∷ qs)) × Holds cells qs

  -- the plate has the closed lines, each the best of its rivals, and their total
  pub record PlateRight (closed : List (ClosedLine C)) (plate : Plate C) : Type 0 where
    pub lines : plate.lines ≡ length closed
    pub few : length closed ≤ line_limit
    pub total : plate.total ≡ total_of m k closed
    pub best : AllByRecursion (Best m k) closed

  -- the open line and the cells stand to its pixels, whatever the account
  pub record OpenRight (width : ℕ) (pixels : List Wanted) (line : OpenLine C) (cells : List (Cell C)) : Type 0 where
    pub wide : line.width ≡ width
    pub count : length pixels + line.left ≡ width
    pub holds : Holds cells (stages_of pixels)
    pub way : (t : ℕ) × Way m.codes m.start (stages_of pixels) t

  -- the open line is right, and its plate has room for it
  pub record LineRight (closed : List (ClosedLine C)) (width : ℕ) (pixels : List Wanted) (line : OpenLine C) (cells : List (Cell C)) : Type 0 where
    pub plate : PlateRight closed line.plate
    pub room : length closed < line_limit
    pub drawn : OpenRight width pixels line cells

  abbrev pub StandRight : List (ClosedLine C) → Stand → State C → List (Cell C) → Type 0
  StandRight closed resting (Resting plate) cells = PlateRight closed plate
  StandRight closed resting (Drawing line) cells = ⊥
  StandRight closed resting Ended cells = ⊥
  StandRight closed (drawing width pixels) (Resting plate) cells = ⊥
  StandRight closed (drawing width pixels) (Drawing line) cells = LineRight closed width pixels line cells
  StandRight closed (drawing width pixels) Ended cells = ⊥
  StandRight closed ended (Resting plate) cells = ⊥
  StandRight closed ended (Drawing line) cells = ⊥
  StandRight closed ended Ended cells = Unit {0}

  abbrev pub Agrees : Account C → State C → List (Cell C) → Type 0
  Agrees a state cells = StandRight a.closed a.stand state cells

  -- what a call leaves: a right answer, and agreement with the account that has it; or the account says that the call finds nothing
  abbrev pub StepRight : ℕ → Account C → Call → List (Cell C) → State C → Result (Result (Answer C) Fault) Unanswered → Type 0
  StepRight n a call cells state (Ok answer) = RightAt m k n a.closed a.stand call answer × Agrees (entered a call answer) state cells
  StepRight n a call cells state (Err NotFound) = finds a.stand call ≡ false
  StepRight n a call cells state (Err (NoMemory error)) = Unit {0}

  -- a step from a state and its cells, for each account that agrees with them
  abbrev pub StepFrom : State C → List (Cell C) → Call → List (Cell C) → Step C → Type 0
  StepFrom state cells call after step = (a : Account C) → Agrees a state cells → StepRight (length cells) a call after step.state step.answer
