-- What the answer of a check tells.
use Rattle.std.proofs.Common.{◌≡◌, ℕ, ◌+◌, ◌*◌, ◌<◌, ◌≤◌, IsErrAnd, Some, None, Ok, Err, Option, Result, sym, refl, ap, ◌∙◌, add-mul, arith}
use Rattle.std.proofs.lemmas.Bool.Decides.{nat_tests}
use Rattle.display.specs.Machine.{Meaning}
use Rattle.lines.specs.Checks.{and_then, answer, left}
use Rattle.lines.specs.declared.fault.Fault.{Fault}
use Rattle.trellis.specs.Calls.{too_few_cells, line_full, line_empty, early_check, ready_check, short_buffers}
use Rattle.trellis.proofs.Reading.{column_before}

-- a call without a result that answers by this check said so: no fault, or which
abbrev pub Told : Option Fault → Option Fault → Type 0
Told said check = ◌≡◌ {A = Result (Unit {0}) Fault} (answer said tt) (answer check tt)

pub told : {A : Type 0} (said check : Option Fault) (x y : A) → answer said y ≡ answer check x → check ≡ said
told None None x y e = refl
told None (Some fault) x y e = cc
told (Some fault) None x y e = cc
told (Some fault) (Some other) x y e = cc

pub told_result : {A : Type 0} (check : Option Fault) (x y : A) → Ok y ≡ answer check x → y ≡ x
told_result None x y e = cc
told_result (Some fault) x y e = cc

-- the exit of a `?` after a call that told of a fault
pub passed_on : (result : Result (Unit {0}) Fault) (check : Option Fault) (fault : Fault) → IsErrAnd result (λ e. e ≡ fault) → Told (Some fault) check → result ≡ answer check tt
passed_on (Ok x) check fault by e = absurd by
passed_on (Err y) check fault by e = ap Err by ∙ e

-- what a call leaves, by what its check says
pub kept : {A : Type 0} (check : Option Fault) (fault : Fault) (new old : A) → check ≡ Some fault → old ≡ left check new old
kept check fault new old e = ap (λ said. left said new old) (sym e)

pub renewed : {A : Type 0} (check : Option Fault) (new old : A) → check ≡ None → new ≡ left check new old
renewed check new old e = ap (λ said. left said new old) (sym e)

-- two checks, one after the other
pub first_stops : (first later : Option Fault) (fault : Fault) → first ≡ Some fault → and_then first later ≡ Some fault
first_stops first later fault e = ap (λ check. and_then check later) e

pub later_says : (first later said : Option Fault) → first ≡ None → later ≡ said → and_then first later ≡ said
later_says first later said e is = ap (λ check. and_then check later) e ∙ is

pub passed_both : (first later : Option Fault) → and_then first later ≡ None → (first ≡ None) × (later ≡ None)
passed_both None later e = (refl, e)
passed_both (Some fault) later e = (cc, cc)

pub enough_cells : (S cells width pixels : ℕ) → too_few_cells S cells width pixels ≡ None → width * S + S ≤ cells
enough_cells S cells width pixels e =
    let rows : (width + 1) * S ≤ cells = grind (arith, nat_tests) in
    omega (arith, add-mul width 1 S)

room : (width pixels : ℕ) → line_full width pixels ≡ None → pixels < width
room width pixels e = grind (arith, nat_tests)

long_buffers : (codes preview pixels : ℕ) → short_buffers codes preview pixels ≡ None → (pixels ≤ codes) × (pixels ≤ preview)
long_buffers codes preview pixels e = (grind (arith, nat_tests), grind (arith, nat_tests))

-- a line that has room has the next column too
pub next_fits : (S cells width pixels : ℕ) → width * S + S ≤ cells → pixels < width → pixels * S + 2 * S ≤ cells
next_fits S cells width pixels enough within =
    omega (arith, column_before S width cells (pixels + 1) enough (omega arith), add-mul pixels 1 S)

pub early_passed : (m : Meaning) (cells width : ℕ) (pin : Option ℕ) (pixels : ℕ) → early_check m cells width pin pixels ≡ None →
    (width * m.states + m.states ≤ cells) × (pixels < width)
early_passed m cells width pin pixels e =
    let p = passed_both (too_few_cells m.states cells width pixels) _ e in
    (enough_cells m.states cells width pixels p.0, room width pixels (passed_both (line_full width pixels) _ p.1).0)

pub ready_passed : (m : Meaning) (cells width codes preview pixels : ℕ) → ready_check m cells width codes preview pixels ≡ None →
    (width * m.states + m.states ≤ cells) × (pixels ≤ codes) × (pixels ≤ preview)
ready_passed m cells width codes preview pixels e =
    let p = passed_both (too_few_cells m.states cells width pixels) _ e in
    let b = long_buffers codes preview pixels (passed_both (line_empty pixels) _ p.1).1 in
    (enough_cells m.states cells width pixels p.0, b.0, b.1)
