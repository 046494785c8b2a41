-- What comes out next of what is left of a file, by the record that stands there.
use Rattle.std.proofs.Common.{◌≡◌, ℕ, ◌+◌, ◌/◌, true, List, [], ◌∷◌, length, drop, Some, Ok, Err, vec_items, Option, Result, Vec, Global, sym, refl, ap, ◌∙◌, subst, arith, Bor}
use Rattle.std.specs.Result.{IsErrAnd}
use Rattle.cost.specs.Kind.{Kind}
use Rattle.lines.specs.declared.fault.Fault.{Fault}
use Rattle.run.specs.Account.{ClosedLine, Wanted}
use Rattle.trellis.specs.declared.plate.Plate.{Plate as PlateAtRest}
use Rattle.viterbi.specs.declared.Cell.{Cell}
use Rattle.records.specs.declared.fault.FileFault.{FileFault}
use Rattle.records.specs.declared.fault.FileFault.TheVariants.{Plate}
use Rattle.records.specs.declared.fault.PlateFault.TheVariants.{Trellis}
use Rattle.records.specs.declared.record.Mark.TheVariants.{Line}
use Rattle.records.specs.declared.record.Record.{Record}
use Rattle.records.specs.declared.record.Record.TheVariants.{Pins as pins}
use Rattle.records.specs.declared.record.Stage.{Stage}
use Rattle.records.specs.declared.record.Stage.TheVariants.{Lines as at_lines}
use Rattle.records.specs.Cutting.{Taken}
use Rattle.records.specs.Letters.{meaning_of}
use Rattle.records.specs.Records.{pins_right}
use Rattle.one_line.specs.Drawing.{drawn_line}
use Rattle.one_line.specs.Pixels.{pixels_of_line}
use Rattle.platefile.specs.declared.drawing.LineRecord.{LineRecord}
use Rattle.platefile.specs.declared.drawing.DrawnLine.{DrawnLine}
use Rattle.platefile.specs.declared.reader.Lines.{Lines}
use Rattle.platefile.specs.Drawns.{Draws}
use Rattle.platefile.specs.Files.{fault_out, stage_after}
use Rattle.platefile.specs.Reading.{FoundRight, LineFound, LineHere, LineNext, PinnedRight, left_outputs, outputs_at}
use Rattle.platefile.proofs.Nexts.{stops_here}
use Rattle.platefile.proofs.Readers.{Stands, drawn_out, line_here, pins_out, pins_stand, refused_out, three_each}

module _ {C : Type 0} (k : Kind C) (before : Lines C) where
  -- what is known of an LN that stands somewhere
  pub line_stands : (at : ℕ) (pinned : Option (List ℕ)) (targets : List ℕ) → LineHere k before at pinned targets →
      Stands before.heading.colours before.heading.width (stage_after pinned) at before.input.now Line targets
  line_stands at pinned targets here = line_here before.heading.colours before.heading.width (stage_after pinned) at before.input.now targets here.good here.marked here.body

  module _ (after : Stage) (piece : Record) (bytes : Bor (List ℕ)) (taken : Taken before.heading.colours before.heading.width at_lines before.at (drop before.at before.input.now) piece after) (is : piece ≡ pins bytes)
      (right : pins_right before.heading.width bytes.now ≡ true) where
    -- after right pins all that is to come comes out from the record behind them
    pinned : left_outputs k before ≡ outputs_at k before (before.at + (4 + length bytes.now)) (Some bytes.now)
    pinned =
        pins_out (meaning_of before.heading.display) k (length (vec_items before.cells)) before.heading.colours before.heading.width before.at before.input.now before.plate bytes.now
        (pins_stand before.heading.colours before.heading.width at_lines after before.at before.input.now bytes (rw is at taken)) right

    pub pinned_line : (line : LineRecord) → PinnedRight k before (before.at + (4 + length bytes.now)) bytes.now (Ok line) → LineFound k before line
    pinned_line line found =
        record {
          pinned = Some bytes.now;
          pins_are = sym found.1;
          here = subst (λ at. LineHere k before at (Some bytes.now) line.targets.now) (sym found.0) found.2;
          outs = pinned ∙ ap (λ at. outputs_at k before at (Some bytes.now)) (sym found.0);
          beyond = omega (arith, found.0);
        }

    pub pinned_fault : (result : Result (Option LineRecord) FileFault) (fault : FileFault) → PinnedRight k before (before.at + (4 + length bytes.now)) bytes.now (Err fault) →
        IsErrAnd result (λ e. e ≡ fault) → FoundRight k before result
    pinned_fault (Ok found) fault check is = absurd is
    pinned_fault (Err e) fault check is =
        pinned
        ∙ stops_here (meaning_of before.heading.display) k (length (vec_items before.cells)) before.heading.colours before.heading.width (before.at + (4 + length bytes.now))
        (drop (before.at + (4 + length bytes.now)) before.input.now) before.plate.lines before.plate.total (Some bytes.now) fault check
        ∙ ap (λ f. fault_out f ∷ []) (sym is)

module _ {C : Type 0} (k : Kind C) (before : Lines C) (line : LineRecord) (found : LineFound k before line) where
  stands : Stands before.heading.colours before.heading.width (stage_after found.pinned) line.at before.input.now Line line.targets.now
  stands = line_stands k before line.at found.pinned line.targets.now found.here

  wide : length line.targets.now / 3 ≡ before.heading.width
  wide = omega (arith, three_each before.heading.colours before.heading.width (stage_after found.pinned) line.at before.input.now line.targets.now stands)

  abbrev pixels : List Wanted
  pixels = pixels_of_line line.pins.now line.targets.now

  -- The line was drawn: it comes out, and the rest is what follows it on the plate that has it.
  pub line_next : (drawn : DrawnLine C) (after : PlateAtRest C) (kept : Vec (Cell C) Global) (cells next : ℕ) → cells ≡ length (vec_items before.cells) → length (vec_items kept) ≡ cells →
      Draws (meaning_of before.heading.display) k cells (length line.targets.now / 3) pixels before.plate after
      (record { pixels = pixels; codes = vec_items drawn.codes; preview = vec_items drawn.preview; cost = drawn.cost }) →
      drawn.number ≡ before.plate.lines → next ≡ line.at + (4 + length line.targets.now) →
      LineNext k (left_outputs k before) before.heading.display drawn (record before { at = next; cells = kept; plate = after })
  line_next drawn after kept cells next cells_are as_many draws number_is next_is =
      let h = before.heading in
      let m = meaning_of h.display in
      let l : ClosedLine C = record { pixels = pixels; codes = vec_items drawn.codes; preview = vec_items drawn.preview; cost = drawn.cost } in
      record {
        line = l;
        out = found.outs ∙ drawn_out m k (length (vec_items before.cells)) h.colours h.width line.at before.input.now before.plate found.pinned line.pins.now line.targets.now stands found.pins_are
            after l (subst (λ n. Draws m k n h.width pixels before.plate after l) cells_are (subst (λ w. Draws m k cells w pixels before.plate after l) wide draws))
            drawn.number next (length (vec_items kept)) number_is next_is (as_many ∙ cells_are);
        cost_is = refl;
        codes_are = refl;
        preview_is = refl;
        best = draws.best;
      }

  -- The line was refused: its fault is the last to come out.
  pub line_fault : (cells number : ℕ) (fault : Fault) → cells ≡ length (vec_items before.cells) → number ≡ before.plate.lines →
      drawn_line (meaning_of before.heading.display) k cells before.plate.lines (length line.targets.now / 3) pixels ≡ Err fault →
      left_outputs k before ≡ fault_out (Plate (Trellis (record { fault = fault; line = number; at = line.at }))) ∷ []
  line_fault cells number fault cells_are number_is refused =
      let h = before.heading in
      let m = meaning_of h.display in
      found.outs
      ∙ refused_out m k (length (vec_items before.cells)) h.colours h.width line.at before.input.now before.plate found.pinned line.pins.now line.targets.now stands found.pins_are fault
      (subst (λ n. drawn_line m k n before.plate.lines h.width pixels ≡ Err fault) cells_are
      (subst (λ w. drawn_line m k cells before.plate.lines w pixels ≡ Err fault) wide refused)) number number_is
