use Rattle.std.proofs.Common.{◌≡◌, length, vec_items, ap, ◌∙◌}
use Rattle.std.proofs.lemmas.List.{length-replicate}
use Rattle.platefile.proofs.Closing.{close_draws, never_refused}
use Rattle.platefile.proofs.drawing.close_line.Goals as goal

pub returns-in-Ok-close_into : goal.returns-in-Ok-close_into
returns-in-Ok-close_into g c pixels full =
    let a = c.args in
    let made = c.in-Ok.made in
    let codes_long : length (vec_items made.0) ≡ a.width = ap length c.in-Ok.ensures.0 ∙ length-replicate a.width 0 in
    let preview_long : length (vec_items made.1) ≡ a.width = ap length c.in-Ok.ensures.1 ∙ length-replicate a.width 0 in
    let closes = c.in-Ok-close_into.ensures in (
      c.requires,
      close_draws (g.M.DisplayMachine.meaning a.machine.now) g.C.Cost.kind (g.met.M.DisplayMachine.lawful a.machine.now) g.met.C.Cost.lawful
          a.width pixels a.line a.cells.now full (vec_items made.0) (vec_items made.1) codes_long preview_long
          c.in-Ok-close_into.plate c.in-Ok-close_into.cost closes.value
          (vec_items c.close_into.new.codes) (vec_items c.close_into.new.preview) closes.coded closes.previewed
          (closes.sized.0 ∙ codes_long) (closes.sized.1 ∙ preview_long),
    )

pub returns-in-Err-close_into : goal.returns-in-Err-close_into
returns-in-Err-close_into g c pixels full =
    let a = c.args in
    let made = c.in-Ok.made in
    let codes_long : length (vec_items made.0) ≡ a.width = ap length c.in-Ok.ensures.0 ∙ length-replicate a.width 0 in
    let preview_long : length (vec_items made.1) ≡ a.width = ap length c.in-Ok.ensures.1 ∙ length-replicate a.width 0 in
    absurd (never_refused (g.M.DisplayMachine.meaning a.machine.now) g.C.Cost.kind (g.met.M.DisplayMachine.lawful a.machine.now) g.met.C.Cost.lawful
    a.width pixels a.line a.cells.now full (vec_items made.0) (vec_items made.1) codes_long preview_long
    c.in-Err-close_into.line c.in-Err-close_into.fault c.in-Err-close_into.ensures.value)
