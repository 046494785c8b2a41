use Rattle.std.proofs.Common.{◌≡◌, Some, None, refl, sym, subst, ◌∙◌, append_assoc}
use Rattle.std.specs.Fmt.{IsPlainFormatter}
use Rattle.std.proofs.lemmas.Grind.{put_two, put_three}
use Rattle.records.specs.Texts.{fault_text, refused_line}
use Rattle.records.proofs.fault.FileFaultDisplay.fmt.Goals as goal
use Rattle.records.proofs.fault.FileFaultDisplay.fmt.Goals.{in-Some+in_ok-write-2, in_default}

pub returns-clause-writes : goal.returns-clause-writes
unfolding fault_text
returns-clause-writes g c plain ok =
    let took = g.W.Write.write_str_gives in
    let f = c.args.f.now in
    let first = c.in_ok-write.ensures.writes plain refl in
    let number = c.number.ensures in
    let layer = c.layer.ensures in
    let place = c.place.ensures in
    elim c.match-refused_line.branch [
      | in-Some+in_ok-write-2 w ↦
          let refused : refused_line c.args.self.now ≡ Some w.in-Some.refused = sym c.refused_line.ensures ∙ w.in-Some.is in
          let pixel = w.pixel.ensures in
          let second = w.in_ok-write-2.ensures.writes first.plain refl in
          let third = c.write-2.ensures.writes (subst IsPlainFormatter (sym w.f-is) second.plain) ok in
          rw (refused, sym number, sym layer, sym place, sym pixel)
          (put_three took f c.write.new.self w.write-in-Some.new.self c.write-2.new.self _ _ _ _ first second (rw w.f-is at third) (simp append_assoc))
      | in_default w ↦
          let refused : refused_line c.args.self.now ≡ None = sym c.refused_line.ensures ∙ w.in_default.is in
          let second = c.write-2.ensures.writes (subst IsPlainFormatter (sym w.f-is) first.plain) ok in
          rw (refused, sym number, sym layer, sym place) (put_two took f c.write.new.self c.write-2.new.self _ _ _ first (rw w.f-is at second) (simp append_assoc))
    ]
