-- What comes out next, by the record that stands there.
use Rattle.std.proofs.Common.{◌≡◌, ℕ, suc, ◌+◌, true, cond, List, [], ◌∷◌, length, Some, None, Ok, Err, Option, unwrap_or, ap, ◌∙◌, arith}
use Rattle.cost.specs.Kind.{Kind}
use Rattle.display.specs.Machine.{Meaning}
use Rattle.lines.specs.declared.fault.Fault.{Fault}
use Rattle.run.specs.Account.{ClosedLine}
use Rattle.records.specs.declared.fault.FileFault.{FileFault}
use Rattle.records.specs.declared.fault.FileFault.TheVariants.{Plate}
use Rattle.records.specs.declared.fault.PlateFault.TheVariants.{OutOfRange, Trellis}
use Rattle.records.specs.declared.record.Mark.TheVariants.{Pins, Line}
use Rattle.records.specs.Records.{mark_at, body_at, length_at, after_record, record_check, pins_right}
use Rattle.one_line.specs.Pixels.{pixels_of_line}
use Rattle.one_line.specs.Drawing.{drawn_line}
use Rattle.platefile.specs.Files.{Output, line_out, fault_out, stage_after, on_drawn, on_mark, on_record, outputs_from, outputs}
use Rattle.platefile.proofs.Outputs.{shorter, enough}

module _ {C : Type 0} (m : Meaning) (k : Kind C) (cells colours width : ℕ) (at : ℕ) (rest : List ℕ) (lines : ℕ) (total : C) where
  -- from here on, after this PN body or none
  abbrev pub from_here : Option (List ℕ) → List (Output C)
  from_here pins = outputs_from m k cells colours width (suc (length rest)) at rest pins lines total

  pub stops_here : (pins : Option (List ℕ)) (fault : FileFault) → record_check colours width (stage_after pins) at rest ≡ Some fault → from_here pins ≡ fault_out fault ∷ []
  stops_here pins fault e = ap (on_record m k cells colours width (outputs_from m k cells colours width (length rest)) at rest pins lines total) e

  module _ (pins : Option (List ℕ)) (good : record_check colours width (stage_after pins) at rest ≡ None) where
    on_marked : from_here pins ≡ on_mark m k cells colours width (outputs_from m k cells colours width (length rest)) at rest pins lines total (mark_at rest)
    on_marked = ap (on_record m k cells colours width (outputs_from m k cells colours width (length rest)) at rest pins lines total) good

    on_lined : mark_at rest ≡ Some Line → from_here pins
        ≡ on_drawn m k cells colours width (outputs_from m k cells colours width (length rest)) at rest lines total (drawn_line m k cells lines width (pixels_of_line (unwrap_or pins []) (body_at rest)))
    on_lined e = on_marked ∙ ap (on_mark m k cells colours width (outputs_from m k cells colours width (length rest)) at rest pins lines total) e

    pub line_next : mark_at rest ≡ Some Line → (line : ClosedLine C) → drawn_line m k cells lines width (pixels_of_line (unwrap_or pins []) (body_at rest)) ≡ Ok line →
        from_here pins ≡ line_out lines line ∷ outputs m k cells colours width (at + (4 + length_at rest)) (after_record rest) (lines + 1) (k.join total line.cost)
    line_next e line drawn =
        let less = shorter colours width (stage_after pins) at rest good in
        on_lined e ∙ ap (on_drawn m k cells colours width (outputs_from m k cells colours width (length rest)) at rest lines total) drawn
        ∙ ap (λ more. line_out lines line ∷ more) (enough m k cells colours width (length rest) (suc (length (after_record rest))) _ (after_record rest) None _ _ less (omega arith))

    pub line_refused : mark_at rest ≡ Some Line → (fault : Fault) → drawn_line m k cells lines width (pixels_of_line (unwrap_or pins []) (body_at rest)) ≡ Err fault →
        from_here pins ≡ fault_out (Plate (Trellis (record { fault = fault; line = lines; at = at }))) ∷ []
    line_refused e fault drawn = on_lined e ∙ ap (on_drawn m k cells colours width (outputs_from m k cells colours width (length rest)) at rest lines total) drawn

    pub pins_next : mark_at rest ≡ Some Pins → pins_right width (body_at rest) ≡ true →
        from_here pins ≡ outputs_from m k cells colours width (suc (length (after_record rest))) (at + (4 + length_at rest)) (after_record rest) (Some (body_at rest)) lines total
    pins_next e right =
        let less = shorter colours width (stage_after pins) at rest good in
        on_marked ∙ ap (on_mark m k cells colours width (outputs_from m k cells colours width (length rest)) at rest pins lines total) e
        ∙ ap (λ b. cond b (outputs_from m k cells colours width (length rest) (at + (4 + length_at rest)) (after_record rest) (Some (body_at rest)) lines total) (fault_out (Plate (OutOfRange at)) ∷ [])) right
        ∙ enough m k cells colours width (length rest) (suc (length (after_record rest))) _ (after_record rest) (Some (body_at rest)) lines total less (omega arith)
