-- When show and judge refuse. A check answers the fault that it finds, or none.
use Rattle.std.specs.Prelude.{ℕ, ◌+◌, ◌*◌, cond, List, [], ◌∷◌, ◌++◌, length, drop, is_some, Some, None, Ok, Err, Option, Result, ◌==◌, nat_le, nat_lt}
use Rattle.cost.specs.Kind.{Kind}
use Rattle.display.specs.Machine.{Meaning}
use Rattle.lines.specs.declared.fault.Fault.{Fault}
use Rattle.lines.specs.declared.fault.Fault.TheVariants.{TargetBytes, UnknownCode, ShortBuffer, NoStep}
use Rattle.lines.specs.Lines.{after_code, preview_of, cost_of, targets_of}

-- one check, and then another
abbrev pub and_then : Option Fault → Option Fault → Option Fault
and_then None later = later
and_then (Some fault) later = Some fault

-- the answer of a call after its checks
abbrev pub answer : {A : Type 0} → Option Fault → A → Result A Fault
answer None result = Ok result
answer (Some fault) result = Err fault

-- what a call leaves in a buffer: the new content if no check finds a fault, else the old
abbrev pub left : {A : Type 0} → Option Fault → A → A → A
left None new old = new
left (Some fault) new old = old

-- 6: there are not just three target bytes to a code
abbrev pub target_bytes : List ℕ → List ℕ → Option Fault
target_bytes codes bytes = cond (length bytes == 3 * length codes) None (Some (TargetBytes (length codes)))

-- 7: a code is past the machine's codes; the first, from place n on
abbrev pub unknown_from : ℕ → ℕ → List ℕ → Option Fault
unknown_from K n [] = None
unknown_from K n (c ∷ cs) = cond (nat_le K c) (Some (UnknownCode n)) (unknown_from K (n + 1) cs)

abbrev pub unknown_code : Meaning → List ℕ → Option Fault
unknown_code m codes = unknown_from m.codes 0 codes

-- 9: a buffer is shorter than the line
abbrev pub short_buffer : List ℕ → List ℕ → Option Fault
short_buffer codes buffer = cond (nat_lt (length buffer) (length codes)) (Some (ShortBuffer (length codes))) None

-- 10: a code has no next state; the first, from state s and place n on
abbrev pub stuck_from : Meaning → ℕ → ℕ → List ℕ → Option Fault
stuck_from m s n [] = None
stuck_from m s n (c ∷ cs) = cond (is_some (m.step s c)) (stuck_from m (after_code m s c) (n + 1) cs) (Some (NoStep n))

abbrev pub no_step : Meaning → List ℕ → Option Fault
no_step m codes = stuck_from m m.start 0 codes

-- the checks of show and of judge, in their order
abbrev pub show_check : Meaning → List ℕ → List ℕ → Option Fault
show_check m codes buffer = and_then (unknown_code m codes) (and_then (short_buffer codes buffer) (no_step m codes))

abbrev pub judge_check : Meaning → List ℕ → List ℕ → Option Fault
judge_check m codes bytes = and_then (target_bytes codes bytes) (and_then (unknown_code m codes) (no_step m codes))

-- the preview at the front of a buffer, whose rest stays
abbrev pub with_front : List ℕ → List ℕ → List ℕ
with_front front buffer = front ++ drop (length front) buffer

-- what show leaves in the buffer, and what judge answers
abbrev pub shown_buffer : Meaning → List ℕ → List ℕ → List ℕ
shown_buffer m codes buffer = left (show_check m codes buffer) (with_front (preview_of m codes) buffer) buffer

abbrev pub judged : {C : Type 0} → Meaning → Kind C → List ℕ → List ℕ → Result C Fault
judged m k codes bytes = answer (judge_check m codes bytes) (cost_of m k codes (targets_of bytes))
