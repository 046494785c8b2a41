use Rattle.std.proofs.Common.{◌≡◌, ℕ, ◌⊎◌, List, [], ◌∷◌, map, refl, sym, ◌∙◌, inl, inr}
use Rattle.std.proofs.lemmas.Slice.Zip.{either_empty_from_Zip}
use Rattle.cost.specs.Kind.{Kind}
use Rattle.display.specs.Colours.{target_by}
use Rattle.display.specs.Machine.{Meaning}
use Rattle.lines.specs.Lines.{cost_from}
use Rattle.lines.proofs.judging.line_cost.Goals as goal

-- no code or no target is left
spent : {C : Type 0} (m : Meaning) (k : Kind C) (sum : C) (s : ℕ) (cs : List ℕ) (ts : List (List ℕ)) → (cs ≡ []) ⊎ (ts ≡ []) → cost_from m k sum s cs (map target_by ts) ≡ sum
spent m k sum s cs ts (inl e) = rw e refl
spent m k sum s [] ts (inr e) = refl
spent m k sum s (c ∷ cs) ts (inr e) = rw e refl

pub returns : goal.returns
returns g c =
    let m = g.M.DisplayMachine.meaning c.args.machine.now in
    let k = g.C.Cost.kind in
    let over = either_empty_from_Zip c.loop-code.code-iterator c.next.new.self c.next.result c.in-None.is c.next.ensures.steps in
    sym (c.loop-code.invariant ∙ spent m k c.loop-code.sum c.loop-code.state _ _ over)
