-- The records of a file's lines, as cut gives them, and what comes out of them.
use Rattle.std.proofs.Common.{◌≡◌, ℕ, suc, ◌+◌, ◌*◌, ◌≤◌, true, List, [], ◌∷◌, length, drop, Some, None, Err, Option, unwrap_or, sym, refl, ap, ◌∙◌, subst, arith, length-drop, Bor}
use Rattle.std.proofs.lemmas.List.{drop-drop, length-take-le}
use Rattle.std.proofs.lemmas.Bool.{eqb-true}
use Rattle.cost.specs.Kind.{Kind}
use Rattle.display.specs.Machine.{Meaning}
use Rattle.lines.specs.declared.fault.Fault.{Fault}
use Rattle.run.specs.Account.{ClosedLine}
use Rattle.trellis.specs.declared.plate.Plate.{Plate as PlateAtRest}
use Rattle.records.specs.declared.fault.FileFault.TheVariants.{Plate}
use Rattle.records.specs.declared.fault.PlateFault.TheVariants.{Trellis}
use Rattle.records.specs.declared.record.Mark.{Mark}
use Rattle.records.specs.declared.record.Mark.TheVariants.{Header, Palette, Pins, Line, End}
use Rattle.records.specs.declared.record.Record.TheVariants.{Pins as pins}
use Rattle.records.specs.declared.record.Stage.{Stage}
use Rattle.records.specs.Records.{RecordIs, asks, mark_at, body_at, length_at, after_record, record_check, pins_right}
use Rattle.one_line.specs.Pixels.{pixels_of_line}
use Rattle.records.specs.Cutting.{Taken}
use Rattle.one_line.specs.Drawing.{drawn_line}
use Rattle.platefile.specs.Drawns.{Draws}
use Rattle.platefile.specs.Files.{Output, line_out, fault_out, stage_after, outputs_from, outputs}
use Rattle.records.proofs.Heads.{passes}
use Rattle.platefile.proofs.Nexts.{line_next, line_refused, pins_next}

is_pins : (mark : Mark) (body : List ℕ) (bytes : Bor (List ℕ)) → RecordIs mark body (pins bytes) → (mark ≡ Pins) × (body ≡ bytes.now)
is_pins Header body bytes h = absurd h
is_pins Palette body bytes h = absurd h
is_pins Pins body bytes h = (refl, sym h)
is_pins Line body bytes h = absurd h
is_pins End body bytes h = absurd h

-- a record of this mark and body stands at byte `at` of the input, and passes 13 to 17
pub record Stands (colours width : ℕ) (stage : Stage) (at : ℕ) (input : List ℕ) (mark : Mark) (body : List ℕ) : Type 0 where
  pub good : record_check colours width stage at (drop at input) ≡ None
  pub marked : mark_at (drop at input) ≡ Some mark
  pub is : body_at (drop at input) ≡ body
  pub long : length_at (drop at input) ≡ length body
  pub asked : asks colours width mark (length body) ≡ true
  pub fits : at + (4 + length body) ≤ length input
  pub after : after_record (drop at input) ≡ drop (at + (4 + length body)) input

module _ (colours width : ℕ) (stage after : Stage) (at : ℕ) (input : List ℕ) where
  stands : (mark : Mark) (body : List ℕ) → record_check colours width stage at (drop at input) ≡ None → mark_at (drop at input) ≡ Some mark → body_at (drop at input) ≡ body →
      Stands colours width stage at input mark body
  stands mark body good marked is =
      let rest = drop at input in
      let p = passes colours width stage at rest mark good marked in
      let n = length-drop at input in
      let m = length-drop 4 rest in
      let long : length (body_at rest) ≡ length_at rest = length-take-le (length_at rest) (drop 4 rest) (omega arith) in
      let same : length_at rest ≡ length body = sym long ∙ ap length is in
      record {
        good = good;
        marked = marked;
        is = is;
        long = same;
        asked = subst (λ i. asks colours width mark i ≡ true) same p.0;
        fits = omega arith;
        after = drop-drop (4 + length_at rest) at input ∙ ap (λ i. drop (at + (4 + i)) input) same;
      }

  pub pins_stand : (bytes : Bor (List ℕ)) → Taken colours width stage at (drop at input) (pins bytes) after → Stands colours width stage at input Pins bytes.now
  pins_stand bytes t =
      let r = is_pins t.mark (body_at (drop at input)) bytes t.is in
      stands Pins bytes.now t.passed (t.marked ∙ ap Some r.0) r.1

-- the same of an LN whose targets are at hand
pub line_here : (colours width : ℕ) (stage : Stage) (at : ℕ) (input targets : List ℕ) → record_check colours width stage at (drop at input) ≡ None → mark_at (drop at input) ≡ Some Line →
    body_at (drop at input) ≡ targets → Stands colours width stage at input Line targets
line_here colours width stage at input targets good marked is = stands colours width stage stage at input Line targets good marked is

-- an LN has three bytes for each pixel
pub three_each : (colours width : ℕ) (stage : Stage) (at : ℕ) (input body : List ℕ) → Stands colours width stage at input Line body → length body ≡ 3 * width
three_each colours width stage at input body s = eqb-true _ _ s.asked

module _ {C : Type 0} (m : Meaning) (k : Kind C) (cells colours width : ℕ) (at : ℕ) (input : List ℕ) (plate : PlateAtRest C) where
  -- a line was drawn: it comes out, and the rest is what follows it on the plate that has it
  pub drawn_out : (pinned : Option (List ℕ)) (pin_bytes targets : List ℕ) → Stands colours width (stage_after pinned) at input Line targets → unwrap_or pinned [] ≡ pin_bytes →
      (after : PlateAtRest C) (l : ClosedLine C) (draws : Draws m k cells width (pixels_of_line pin_bytes targets) plate after l) →
      (number next cells' : ℕ) → number ≡ plate.lines → next ≡ at + (4 + length targets) → cells' ≡ cells →
      outputs_from m k cells colours width (suc (length (drop at input))) at (drop at input) pinned plate.lines plate.total
      ≡ line_out number l ∷ outputs m k cells' colours width next (drop next input) after.lines after.total
  drawn_out pinned pin_bytes targets s pins_are after l draws number next cells' number_is next_is cells_are =
      let rest = drop at input in
      let Out : ℕ → ℕ → ℕ → List ℕ → ℕ → C → List (Output C) = λ num n i r ls t. line_out num l ∷ outputs m k n colours width i r ls t in
      let place : at + (4 + length_at rest) ≡ next = ap (λ n. at + (4 + n)) s.long ∙ sym next_is in
      let p = draws.counted in
      line_next m k cells colours width at rest plate.lines plate.total pinned s.good s.marked l
      (ap (λ ps. drawn_line m k cells plate.lines width (pixels_of_line ps (body_at rest))) pins_are ∙ ap (λ ts. drawn_line m k cells plate.lines width (pixels_of_line pin_bytes ts)) s.is ∙ draws.drawn)
      ∙ ap (λ num. Out num cells (at + (4 + length_at rest)) (after_record rest) (plate.lines + 1) (k.join plate.total l.cost)) (sym number_is)
      ∙ ap (λ n. Out number n (at + (4 + length_at rest)) (after_record rest) (plate.lines + 1) (k.join plate.total l.cost)) (sym cells_are)
      ∙ ap (λ i. Out number cells' i (after_record rest) (plate.lines + 1) (k.join plate.total l.cost)) place
      ∙ ap (λ r. Out number cells' next r (plate.lines + 1) (k.join plate.total l.cost)) (s.after ∙ ap (λ i. drop i input) (sym next_is))
      ∙ ap (λ a. Out number cells' next (drop next input) a.lines a.total) (sym p)

  pub refused_out : (pinned : Option (List ℕ)) (pin_bytes targets : List ℕ) → Stands colours width (stage_after pinned) at input Line targets → unwrap_or pinned [] ≡ pin_bytes →
      (fault : Fault) → drawn_line m k cells plate.lines width (pixels_of_line pin_bytes targets) ≡ Err fault → (number : ℕ) → number ≡ plate.lines →
      outputs_from m k cells colours width (suc (length (drop at input))) at (drop at input) pinned plate.lines plate.total
      ≡ fault_out (Plate (Trellis (record { fault = fault; line = number; at = at }))) ∷ []
  refused_out pinned pin_bytes targets s pins_are fault drawn number number_is =
      line_refused m k cells colours width at (drop at input) plate.lines plate.total pinned s.good s.marked fault
      (ap (λ ps. drawn_line m k cells plate.lines width (pixels_of_line ps (body_at (drop at input)))) pins_are ∙ ap (λ ts. drawn_line m k cells plate.lines width (pixels_of_line pin_bytes ts)) s.is ∙ drawn)
      ∙ ap (λ n. fault_out (Plate (Trellis (record { fault = fault; line = n; at = at }))) ∷ []) (sym number_is)

  -- from a place on, after a PN body
  abbrev From : ℕ → ℕ → List ℕ → List ℕ → List (Output C)
  From n i r ps = outputs_from m k cells colours width (suc n) i r (Some ps) plate.lines plate.total

  pub pins_out : (bytes : List ℕ) → Stands colours width (stage_after None) at input Pins bytes → pins_right width bytes ≡ true →
      outputs m k cells colours width at (drop at input) plate.lines plate.total
      ≡ outputs_from m k cells colours width (suc (length (drop (at + (4 + length bytes)) input))) (at + (4 + length bytes)) (drop (at + (4 + length bytes)) input) (Some bytes) plate.lines plate.total
  pins_out bytes s right =
      pins_next m k cells colours width at (drop at input) plate.lines plate.total None s.good s.marked (ap (pins_right width) s.is ∙ right)
      ∙ ap (λ r. From (length r) (at + (4 + length_at (drop at input))) r (body_at (drop at input))) s.after
      ∙ ap (λ n. From (length (drop (at + (4 + length bytes)) input)) (at + (4 + n)) (drop (at + (4 + length bytes)) input) (body_at (drop at input))) s.long
      ∙ ap (From (length (drop (at + (4 + length bytes)) input)) (at + (4 + length bytes)) (drop (at + (4 + length bytes)) input)) s.is
