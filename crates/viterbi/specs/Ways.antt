-- Stages, and ways along them. A line is the list of its stages, the last pixel first.
use Rattle.std.specs.Prelude.{◌≡◌, ℕ, ◌<◌, List, [], ◌∷◌, Some, Option}
use Rattle.cost.specs.Kind.{Kind}

-- One pixel: the state that a code leads to from a state, if it is permitted there, and the price of a code at the state that it led to.
pub record Stage (C : Type 0) : Type 0 where
  pub next : ℕ → ℕ → Option ℕ
  pub price : ℕ → ℕ → C

-- a way along the stages, by codes below K, from the start to a state
pub data Way {C : Type 0} (K start : ℕ) : List (Stage C) → ℕ → Type 0 where
  begin : Way K start [] start
  on : {p : Stage C} {ps : List (Stage C)} {s t : ℕ} → Way K start ps s → (c : ℕ) → c < K → p.next s c ≡ Some t → Way K start (p ∷ ps) t

-- its codes and the states that it comes to, the last first
abbrev pub codes : {C : Type 0} {K start t : ℕ} {ps : List (Stage C)} → Way K start ps t → List ℕ
codes begin = []
codes (on w c below goes) = c ∷ codes w

abbrev pub states : {C : Type 0} {K start t : ℕ} {ps : List (Stage C)} → Way K start ps t → List ℕ
states begin = []
states (on {t = t} w c below goes) = t ∷ states w

-- what a way costs: each step joins its price to the cost of the way before it
abbrev pub way_cost : {C : Type 0} {K start t : ℕ} {ps : List (Stage C)} → Kind C → Way K start ps t → C
way_cost k begin = k.zero
way_cost k (on {p = p} {t = t} w c below goes) = k.join (way_cost k w) (p.price c t)
