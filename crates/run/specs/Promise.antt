-- The promise over every run.
use Rattle.std.specs.Prelude.{◌≡◌, ℕ, false, ◌⊎◌, List, [], ◌∷◌, map, reverse, length, take, drop, Some, None, Ok, Err, vec_items, Option, Result}
use Rattle.cost.specs.Kind.{Kind, AtMost}
use Rattle.display.specs.Machine.{Meaning}
use Rattle.lines.specs.declared.fault.Fault.{Fault}
use Rattle.lines.specs.declared.fault.Fault.TheVariants.{NoWay}
use Rattle.trellis.specs.Calls.{start_check, early_check, ready_check, line_empty}
use Rattle.viterbi.specs.Totals.{total}
use Rattle.run.specs.declared.entry.Call.{Call}
use Rattle.run.specs.declared.entry.Call.TheVariants.{Start, Pixel, Pin, Back, Close, Abandon, Report}
use Rattle.run.specs.declared.entry.Answer.{Answer}
use Rattle.run.specs.declared.entry.Answer.TheVariants.{Taken, Closed, Reported}
use Rattle.run.specs.declared.entry.Entry.{Entry}
use Rattle.run.specs.Account.{Wanted, ClosedLine, Stand, resting, drawing, ended, Account, new_account, finds, entered, account_from}
use Rattle.run.specs.Rivals.{Rival, Best, total_of, Choice, choice_costs}

-- taken if no check finds a fault, else refused by the first that does
abbrev pub by_check : {C : Type 0} → Option Fault → Result (Answer C) Fault
by_check None = Ok Taken
by_check (Some fault) = Err fault

module _ {C : Type 0} (m : Meaning) (k : Kind C) where
  -- what pixel and pin answer, by the fault that an earlier check finds and by the line with the new pixel:
  -- refused by number 8 exactly where that line has no rival at all
  abbrev pub AddRight : Option Fault → List Wanted → ℕ → Result (Answer C) Fault → Type 0
  AddRight (Some fault) pixels n answer = answer ≡ Err fault
  AddRight None pixels n answer =
      ((answer ≡ Ok Taken) × ((codes : List ℕ) × Rival m pixels codes))
      ⊎ ((answer ≡ Err (NoWay n)) × ((codes : List ℕ) → Rival m pixels codes → ⊥))

  -- what close answers where no check finds a fault: the line that is promised
  abbrev pub ClosesBest : List Wanted → Result (Answer C) Fault → Type 0
  ClosesBest pixels (Ok Taken) = ⊥
  ClosesBest pixels (Ok (Closed codes preview cost)) = Best m k (record { pixels = pixels; codes = vec_items codes; preview = vec_items preview; cost = cost })
  ClosesBest pixels (Ok (Reported lines total)) = ⊥
  ClosesBest pixels (Err fault) = ⊥

  -- what close answers: refused by the fault that an early check finds; else the line that is promised
  abbrev pub CloseRight : Option Fault → List Wanted → Result (Answer C) Fault → Type 0
  CloseRight (Some fault) pixels answer = answer ≡ Err fault
  CloseRight None pixels answer = ClosesBest pixels answer

  -- what a report answers: how many lines are closed, and their total; no other choice of rivals totals less
  pub record Reports (closed : List (ClosedLine C)) (lines : ℕ) (sum : C) : Type 0 where
    pub count : lines ≡ length closed
    pub total_is : sum ≡ total_of m k closed
    pub least : (others : List (List ℕ)) → Choice m k closed others → AtMost k sum (total k (choice_costs m k closed others))

  abbrev pub ReportRight : List (ClosedLine C) → Result (Answer C) Fault → Type 0
  ReportRight closed (Ok Taken) = ⊥
  ReportRight closed (Ok (Closed codes preview cost)) = ⊥
  ReportRight closed (Ok (Reported lines sum)) = Reports closed lines sum
  ReportRight closed (Err fault) = ⊥

  module _ (cells : ℕ) where
    -- an answer is right, by the account before the call; no call is made that does not find what takes it
    abbrev pub RightAt : List (ClosedLine C) → Stand → Call → Result (Answer C) Fault → Type 0
    RightAt closed resting (Start width) answer = answer ≡ by_check (start_check m cells (length closed) width)
    RightAt closed resting (Pixel target) answer = ⊥
    RightAt closed resting (Pin target code) answer = ⊥
    RightAt closed resting Back answer = ⊥
    RightAt closed resting (Close codes preview) answer = ⊥
    RightAt closed resting Abandon answer = ⊥
    RightAt closed resting Report answer = ReportRight closed answer
    RightAt closed (drawing width pixels) (Start w) answer = ⊥
    RightAt closed (drawing width pixels) (Pixel target) answer =
        AddRight (early_check m cells width None (length pixels)) (reverse (record { target = target; pin = None } ∷ pixels)) (length pixels) answer
    RightAt closed (drawing width pixels) (Pin target code) answer =
        AddRight (early_check m cells width (Some code) (length pixels)) (reverse (record { target = target; pin = Some code } ∷ pixels)) (length pixels) answer
    RightAt closed (drawing width pixels) Back answer = answer ≡ by_check (line_empty (length pixels))
    RightAt closed (drawing width pixels) (Close codes preview) answer =
        CloseRight (ready_check m cells width codes preview (length pixels)) (reverse pixels) answer
    RightAt closed (drawing width pixels) Abandon answer = answer ≡ Ok Taken
    RightAt closed (drawing width pixels) Report answer = ⊥
    RightAt closed ended call answer = ⊥

    -- every answer of a record is right, by the account of the entries before it
    abbrev pub AllRight : Account C → List (Entry C) → Type 0
    AllRight a [] = Unit {0}
    AllRight a (e ∷ es) = RightAt a.closed a.stand e.call e.answer × AllRight (entered a e.call e.answer) es

    -- the run stops only at a call that does not find what takes it
    abbrev pub Stops : Stand → List Call → Type 0
    Stops stand [] = Unit {0}
    Stops stand (call ∷ calls) = finds stand call ≡ false

    -- The promise: what the record of a run says, by the calls that were asked for.
    pub record Promise (calls : List Call) (entries : List (Entry C)) : Type 0 where
      -- the calls were made in order, as far as each found what takes it
      pub made : map (λ e. e.call) entries ≡ take (length entries) calls
      pub stops : Stops (account_from new_account entries).stand (drop (length entries) calls)
      pub right : AllRight new_account entries
