-- The cheapest line of targets: the calls on a plate that find it, and what it is by summed errors.
use Rattle.std.specs.Prelude.{◌≡◌, ℕ, ◌+◌, ◌*◌, ◌/◌, List, [], ◌∷◌, ◌++◌, map, reverse, length, Some, None, Ok, Err, vec_items, Option, Result}
use Rattle.cost.specs.Kinds.{summed}
use Rattle.cost.specs.declared.summed.Summed.{Summed}
use Rattle.display.specs.Machine.{Meaning}
use Rattle.display.specs.declared.colour.Target.{Target}
use Rattle.lines.specs.declared.fault.Fault.{Fault}
use Rattle.one_line.specs.Drawing.{drawn_line}
use Rattle.one_line.specs.Lines.{wanted_of}
use Rattle.run.specs.declared.entry.Answer.{Answer}
use Rattle.run.specs.declared.entry.Answer.TheVariants.{Closed, Reported}
use Rattle.run.specs.declared.entry.Call.{Call}
use Rattle.run.specs.declared.entry.Call.TheVariants.{Start, Pixel, Close, Report}
use Rattle.run.specs.declared.entry.Entry.{Entry}
use Rattle.run.specs.Account.{ClosedLine}
use Rattle.run.specs.Promise.{Reports}
use Rattle.run.specs.Rivals.{Best}
use Rattle.editor_line.specs.declared.cheapest.FoundLine.{FoundLine}
use Rattle.one_line.specs.declared.error.DrawError.{DrawError}
use Rattle.one_line.specs.declared.error.DrawError.TheVariants.{Refused, NoMemory}

-- a plate of one line: start, a pixel for each target, close into buffers of that length, report
abbrev pub line_calls : List Target → List Call
line_calls targets =
    Start (length targets) ∷ (map Pixel targets ++ Close (length targets) (length targets) ∷ Report ∷ [])

-- the line of these targets without pins, drawn on a new plate with a column of cells for each target and one more; or the first refusal
abbrev pub cheapest : Meaning → List ℕ → Result (ClosedLine Summed) Fault
cheapest m bytes = let n = length bytes / 3 in drawn_line m summed ((n + 1) * m.states) 0 n (wanted_of bytes)

-- what was found, as a closed line of these targets
abbrev pub line_found : List ℕ → FoundLine → ClosedLine Summed
line_found bytes found = record { pixels = wanted_of bytes; codes = vec_items found.codes; preview = vec_items found.preview; cost = found.figures.cost }

-- it is the line drawn, the best of its rivals, and lines and total are those of a plate with this line alone
pub record Found (m : Meaning) (bytes : List ℕ) (found : FoundLine) : Type 0 where
  pub drawn : cheapest m bytes ≡ Ok (line_found bytes found)
  pub best : Best m summed (line_found bytes found)
  pub reports : Reports m summed (line_found bytes found ∷ []) found.figures.report.lines found.figures.report.total

abbrev pub Cheapest : Meaning → List ℕ → Result FoundLine DrawError → Type 0
Cheapest m bytes (Ok found) = Found m bytes found
Cheapest m bytes (Err (Refused fault)) = cheapest m bytes ≡ Err fault
Cheapest m bytes (Err (NoMemory lack)) = Unit {0}

-- a refusal, or else what comes later
abbrev pub refused_or : Result (Answer Summed) Fault → Option Fault → Option Fault
refused_or (Ok _) later = later
refused_or (Err fault) later = Some fault

-- the first refusal in a record
abbrev pub first_refusal : List (Entry Summed) → Option Fault
first_refusal [] = None
first_refusal (entry ∷ entries) = refused_or entry.answer (first_refusal entries)

-- the line of a close, with what a report after it says; none where the one was no taken close or the other no report
abbrev pub line_of : Result (Answer Summed) Fault → Result (Answer Summed) Fault → Option FoundLine
line_of (Ok (Closed line preview cost)) (Ok (Reported lines total)) =
    Some (record { codes = line; preview = preview; figures = record { cost = cost; report = record { lines = lines; total = total } } })
line_of closed reported = None

-- the line of a record's last two calls, the last of which stands first here
abbrev pub last_line : List (Entry Summed) → Option FoundLine
last_line [] = None
last_line (last ∷ []) = None
last_line (last ∷ before ∷ entries) = line_of before.answer last.answer

abbrev pub line_read : List (Entry Summed) → Option FoundLine
line_read entries = last_line (reverse entries)
