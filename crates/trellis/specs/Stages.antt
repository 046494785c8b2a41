-- The stage of a pixel: what a display machine, a cost kind, the levels wanted and a pin make of it.
use Rattle.std.specs.Prelude.{ℕ, Bool, true, cond, Some, None, Option, ◌==◌}
use Rattle.cost.specs.Kind.{Kind}
use Rattle.display.specs.Machine.{Meaning}
use Rattle.display.specs.declared.colour.Levels.{Levels}
use Rattle.lines.specs.Lines.{price_at}
use Rattle.viterbi.specs.Ways.{Stage}

-- a pinned pixel permits its pin's code alone, any other every code
abbrev pub permits : Option ℕ → ℕ → Bool
permits None c = true
permits (Some pin) c = pin == c

-- the next state, from a state by a permitted code, or none
abbrev pub permitted : Meaning → Option ℕ → ℕ → ℕ → Option ℕ
permitted m pin s c = cond (permits pin c) (m.step s c) None

abbrev pub stage : {C : Type 0} → Meaning → Kind C → Levels → Option ℕ → Stage C
stage m k wanted pin = record {
  next = permitted m pin;
  price = price_at m k wanted;
}
