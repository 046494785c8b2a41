use Rattle.std.proofs.Common.{ℕ, Bool, is_some, sym, ap, ◌∙◌, rules}
use Rattle.viterbi.specs.Columns.{any_below}
use Rattle.trellis.specs.Stages.{permitted}
use Rattle.trellis.proofs.Bidding.{pinned_step}
use Rattle.trellis.proofs.Ranges.{any_in_range}
use Rattle.trellis.proofs.columns.can_step.Goals as goal

pub returns-in-Some : goal.returns-in-Some
returns-in-Some g c =
    c.is_some.ensures
    ∙ ap is_some c.step.ensures.value
    ∙ sym (pinned_step _ (g.met.M.DisplayMachine.lawful c.args.machine.now) c.args.pin c.in-Some.code c.in-Some.is c.args.s)

pub returns-in-None : goal.returns-in-None
returns-in-None g c =
    let m = g.M.DisplayMachine.meaning c.args.machine.now in
    let test : ℕ → Bool = λ d. is_some (permitted m c.args.pin c.args.s d) in
    any_in_range _ _ test _ _ c.any.ensures.ran (λ d b q k. search rules) ∙ ap (λ n. any_below n test) c.codes.ensures
