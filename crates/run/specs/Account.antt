-- The account of a run, kept from the record of its calls and answers alone.
use Rattle.std.specs.Prelude.{ℕ, Bool, true, false, List, [], ◌∷◌, reverse, Some, None, Ok, Err, vec_items, Option, Result}
use Rattle.display.specs.declared.colour.Target.{Target}
use Rattle.lines.specs.declared.fault.Fault.{Fault}
use Rattle.run.specs.declared.entry.Call.{Call}
use Rattle.run.specs.declared.entry.Call.TheVariants.{Start, Pixel, Pin, Back, Close, Abandon, Report}
use Rattle.run.specs.declared.entry.Answer.{Answer}
use Rattle.run.specs.declared.entry.Answer.TheVariants.{Taken, Closed, Reported}
use Rattle.run.specs.declared.entry.Entry.{Entry}

-- one pixel of a line: its target, and its pin's code if it is pinned
pub record Wanted : Type 0 where
  pub target : Target
  pub pin : Option ℕ

-- a closed line: its pixels from left to right, and what its close answered
pub record ClosedLine (C : Type 0) : Type 0 where
  pub pixels : List Wanted
  pub codes : List ℕ
  pub preview : List ℕ
  pub cost : C

-- what stands on the plate: no line; an open one, with its width and its pixels, the last first; or nothing any more, after a report
pub data Stand : Type 0 where
  resting : Stand
  drawing : (width : ℕ) (pixels : List Wanted) → Stand
  ended : Stand

-- an account
pub record Account (C : Type 0) : Type 0 where
  -- the closed lines, the last first
  pub closed : List (ClosedLine C)
  pub stand : Stand

abbrev pub new_account : {C : Type 0} → Account C
new_account = record { closed = []; stand = resting }

-- whether a call finds the plate at rest or the open line that takes it
abbrev pub finds : Stand → Call → Bool
finds resting (Start width) = true
finds resting (Pixel target) = false
finds resting (Pin target code) = false
finds resting Back = false
finds resting (Close codes preview) = false
finds resting Abandon = false
finds resting Report = true
finds (drawing width pixels) (Start w) = false
finds (drawing width pixels) (Pixel target) = true
finds (drawing width pixels) (Pin target code) = true
finds (drawing width pixels) Back = true
finds (drawing width pixels) (Close codes preview) = true
finds (drawing width pixels) Abandon = true
finds (drawing width pixels) Report = false
finds ended call = false

abbrev pub with_pixel : Stand → Wanted → Stand
with_pixel resting p = resting
with_pixel (drawing width pixels) p = drawing width (p ∷ pixels)
with_pixel ended p = ended

abbrev pub without_last : Stand → Stand
without_last resting = resting
without_last (drawing width []) = drawing width []
without_last (drawing width (p ∷ pixels)) = drawing width pixels
without_last ended = ended

-- the open line's pixels from left to right
abbrev pub drawn : Stand → List Wanted
drawn resting = []
drawn (drawing width pixels) = reverse pixels
drawn ended = []

-- a taken call
abbrev pub after_taken : Stand → Call → Stand
after_taken stand (Start width) = drawing width []
after_taken stand (Pixel target) = with_pixel stand (record { target = target; pin = None })
after_taken stand (Pin target code) = with_pixel stand (record { target = target; pin = Some code })
after_taken stand Back = without_last stand
after_taken stand (Close codes preview) = resting
after_taken stand Abandon = resting
after_taken stand Report = ended

module _ {C : Type 0} where
  -- the account after one more entry of the record; a refused call changes nothing
  abbrev pub entered : Account C → Call → Result (Answer C) Fault → Account C
  entered a call (Ok Taken) = record { closed = a.closed; stand = after_taken a.stand call }
  entered a call (Ok (Closed codes preview cost)) = record {
    closed = record { pixels = drawn a.stand; codes = vec_items codes; preview = vec_items preview; cost = cost } ∷ a.closed;
    stand = after_taken a.stand call;
  }
  entered a call (Ok (Reported lines total)) = record { closed = a.closed; stand = after_taken a.stand call }
  entered a call (Err fault) = a

  -- and after a whole record
  abbrev pub account_from : Account C → List (Entry C) → Account C
  account_from a [] = a
  account_from a (e ∷ es) = account_from (entered a e.call e.answer) es
