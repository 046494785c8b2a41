-- What a display machine is: states and codes by number, the start, the steps, the colour of each state, and which codes hold.
use Rattle.std.specs.Prelude.{◌≡◌, ℕ, ◌<◌, ◌≤◌, Bool, false, Some, None, Option}

pub record Meaning : Type 0 where
  -- how many states and codes there are; both are numbered from 0
  pub states : ℕ
  pub codes : ℕ
  pub start : ℕ
  -- the next state, from a state by a code, or none
  pub step : ℕ → ℕ → Option ℕ
  -- the colour that a state shows
  pub shown : ℕ → ℕ
  -- whether a code holds
  pub holds : ℕ → Bool

-- code c leads from state s to state t
abbrev pub Steps : Meaning → ℕ → ℕ → ℕ → Type 0
Steps m s c t = m.step s c ≡ Some t

-- what every display machine keeps to
pub record Lawful (m : Meaning) : Type 0 where
  pub some_states : 0 < m.states
  pub few_states : m.states ≤ 4096
  pub some_codes : 0 < m.codes
  pub few_codes : m.codes ≤ 64
  pub start_below : m.start < m.states
  pub next_below : (s c t : ℕ) → Steps m s c t → t < m.states
  pub no_such_state : (s c : ℕ) → m.states ≤ s → m.step s c ≡ None
  pub no_such_code : (s c : ℕ) → m.codes ≤ c → m.step s c ≡ None
  pub colour_below : (s : ℕ) → m.shown s < 4096
  pub past_shows_black : (s : ℕ) → m.states ≤ s → m.shown s ≡ 0
  pub past_holds_not : (c : ℕ) → m.codes ≤ c → m.holds c ≡ false
