use Rattle.std.proofs.Common.{◌≡◌, length, true, ap, ap₂, ◌∙◌, arith}
use Rattle.std.proofs.lemmas.Grind.{common_steps}
use lib.ListN.{replicate}
use Rattle.run_tests.proofs.Alike.{all_alike}
use Rattle.run_tests.proofs.litter.littered.Goals as goal

pub returns : goal.returns
returns g c =
    let (ys, last, items, folds) = c.in_ok-resize_with.ensures.items in
    let whole : c.resize_with.new.self.items ≡ ys = grind (arith, common_steps, items, c.new-cells.ensures.items) in
    let long : length ys ≡ c.args.count = omega (arith, ap length whole, c.in_ok-resize_with.ensures.len, c.resize_with.new.self.ok.0) in
    whole ∙ all_alike _ (λ f. f.0) (λ p x q e. (cc, cc)) _ ys last folds
    ∙ ap₂ replicate long (ap (λ z. record { cost = z; prev = 1; code = 1; reached = true }) c.zero.ensures)
