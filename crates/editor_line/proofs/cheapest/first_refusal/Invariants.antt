use Rattle.std.proofs.Common.{◌≡◌, drop}
use Rattle.editor_line.specs.Cheapest.{first_refusal}
use Rattle.editor_line.proofs.cheapest.first_refusal.Given as goal

-- no refusal stands before the entry that comes next
abbrev pub invariant-loop-entry : goal.invariant-loop-entry
invariant-loop-entry l = first_refusal l.fn.entries ≡ first_refusal (drop l.entry-index l.fn.entries)
