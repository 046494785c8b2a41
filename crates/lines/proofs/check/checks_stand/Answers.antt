use Rattle.std.proofs.Common.{Some, ap, ◌∙◌, inl, inr, zero-add}
use Rattle.lines.specs.declared.fault.Fault.TheVariants.{UnknownCode, NoStep}
use Rattle.lines.proofs.Walks.{length-preview}
use Rattle.lines.proofs.Places.{unknown_place, stuck_place}
use Rattle.lines.proofs.check.checks_stand.Goals as goal

pub returns : goal.returns
returns c m codes = record {
  unknown = elim (unknown_place m.codes 0 codes) [
    | inl r ↦ inl r
    | inr r ↦ inr (r.0, r.1 ∙ ap (λ j. Some (UnknownCode j)) (zero-add r.0), record { place = r.2; here = r.3; known = r.4 })
  ];
  stuck = elim (stuck_place m m.start 0 codes) [
    | inl r ↦ inl r
    | inr r ↦ inr (r.0, r.1 ∙ ap (λ j. Some (NoStep j)) (zero-add r.0), record { place = r.2; legal = r.3; here = r.4 })
  ];
  colours = length-preview m m.start codes;
}
