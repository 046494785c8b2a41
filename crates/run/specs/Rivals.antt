-- A line and its rivals.
use Rattle.std.specs.Prelude.{◌≡◌, ℕ, List, [], ◌∷◌, map, reverse, length, Some, None, Option}
use Rattle.cost.specs.Kind.{Kind, AtMost}
use Rattle.display.specs.Colours.{levels_of}
use Rattle.display.specs.Machine.{Meaning}
use Rattle.display.specs.declared.colour.Target.{Target}
use Rattle.lines.specs.Lines.{Legal, preview_of, cost_of}
use Rattle.trellis.specs.Stages.{stage}
use Rattle.viterbi.specs.Ways.{Stage}
use Rattle.viterbi.specs.Columns.{at, pick, last_column, traced_codes}
use Rattle.viterbi.specs.Totals.{total}
use Rattle.run.specs.Account.{Wanted, ClosedLine}

-- a pinned pixel has its pin's code
abbrev pub KeepsPin : Option ℕ → ℕ → Type 0
KeepsPin None code = Unit {0}
KeepsPin (Some pin) code = code ≡ pin

-- every pin is kept: where a pixel is pinned, the line has the pin's code
abbrev pub Keeps : List Wanted → List ℕ → Type 0
Keeps [] codes = Unit {0}
Keeps (p ∷ pixels) [] = Unit {0}
Keeps (p ∷ pixels) (code ∷ codes) = KeepsPin p.pin code × Keeps pixels codes

-- a rival: a legal code line of that length that keeps those pins
pub record Rival (m : Meaning) (pixels : List Wanted) (codes : List ℕ) : Type 0 where
  pub legal : Legal m codes
  pub long : length codes ≡ length pixels
  pub keeps : Keeps pixels codes

abbrev pub targets : List Wanted → List Target
targets pixels = map (λ p. p.target) pixels

-- the stages of a line's pixels, the last first
abbrev pub stages : {C : Type 0} → Meaning → Kind C → List Wanted → List (Stage C)
stages m k pixels = map (λ p. stage m k (levels_of p.target) p.pin) (reverse pixels)

module _ {C : Type 0} (m : Meaning) (k : Kind C) where
  -- the line is the one that columns and close pick: the way back from the cheapest state of its last column
  pub record Picks (line : ClosedLine C) : Type 0 where
    pub state : ℕ
    pub picks : pick k (last_column k m.states m.codes m.start (stages m k line.pixels)) m.states ≡ Some state
    pub codes : line.codes ≡ reverse (traced_codes k m.states m.codes m.start (stages m k line.pixels) state)
    pub cost : line.cost ≡ (at k (last_column k m.states m.codes m.start (stages m k line.pixels)) state).cost

  -- what is promised of each closed line
  pub record Best (line : ClosedLine C) : Type 0 where
    pub picked : Picks line
    -- it is one of its own rivals: legal, as long as its pixels, its pins kept
    pub rival : Rival m line.pixels line.codes
    pub shows : line.preview ≡ preview_of m line.codes
    pub costs : line.cost ≡ cost_of m k line.codes (targets line.pixels)
    -- no rival costs less by the same targets
    pub least : (other : List ℕ) → Rival m line.pixels other → AtMost k line.cost (cost_of m k other (targets line.pixels))

  -- zero joined with the costs of the closed lines in order
  abbrev pub total_of : List (ClosedLine C) → C
  total_of lines = total k (map (λ line. line.cost) lines)

  -- another choice of code lines, one rival for each closed line
  abbrev pub Choice : List (ClosedLine C) → List (List ℕ) → Type 0
  Choice [] [] = Unit {0}
  Choice [] (other ∷ others) = ⊥
  Choice (line ∷ lines) [] = ⊥
  Choice (line ∷ lines) (other ∷ others) = Rival m line.pixels other × Choice lines others

  -- the costs of a choice
  abbrev pub choice_costs : List (ClosedLine C) → List (List ℕ) → List C
  choice_costs [] others = []
  choice_costs (line ∷ lines) [] = []
  choice_costs (line ∷ lines) (other ∷ others) = cost_of m k other (targets line.pixels) ∷ choice_costs lines others
