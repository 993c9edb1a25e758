-- Chains of numbers, each of which depends on the one before it, and what they cost.
use Rattle.std.specs.Prelude.{◌≡◌, ℕ, ◌+◌, ◌<◌, ◌≤◌, List, [], ◌∷◌, sum_by, Option, Some, None}

-- each number depends on the one before it, the first on number i
abbrev pub IsChainBehind : (ℕ → ℕ → Type 0) → ℕ → List ℕ → Type 0
IsChainBehind Depends i [] = Unit {0}
IsChainBehind Depends i (j ∷ js) = Depends i j × IsChainBehind Depends j js

-- a chain of numbers below n; the empty list is one
abbrev pub IsChain : (ℕ → ℕ → Type 0) → ℕ → List ℕ → Type 0
IsChain Depends n [] = Unit {0}
IsChain Depends n (i ∷ is) = (i < n) × IsChainBehind Depends i is

-- what the steps of a chain cost, each from a number to the next one
abbrev pub steps_behind : (ℕ → ℕ → ℕ) → ℕ → List ℕ → ℕ
steps_behind step i [] = 0
steps_behind step i (j ∷ js) = step i j + steps_behind step j js

abbrev pub steps_cost : (ℕ → ℕ → ℕ) → List ℕ → ℕ
steps_cost step [] = 0
steps_cost step (i ∷ is) = steps_behind step i is

-- what a chain costs: the sum of what its numbers and its steps cost
abbrev pub cost : (ℕ → ℕ) → (ℕ → ℕ → ℕ) → List ℕ → ℕ
cost ticks step chain = sum_by ticks chain + steps_cost step chain

-- the number that a chain ends with
abbrev pub last_from : ℕ → List ℕ → ℕ
last_from i [] = i
last_from i (j ∷ js) = last_from j js

abbrev pub last_of : List ℕ → Option ℕ
last_of [] = None
last_of (i ∷ is) = Some (last_from i is)

-- the finish of number i: the greatest cost of a chain that ends with it
pub record IsFinish (Depends : ℕ → ℕ → Type 0) (n : ℕ) (ticks : ℕ → ℕ) (step : ℕ → ℕ → ℕ) (i finish : ℕ) : Type 0 where
  pub chain : List ℕ
  pub is_chain : IsChain Depends n chain
  pub ends : last_of chain ≡ Some i
  pub costs : cost ticks step chain ≡ finish
  pub greatest : (other : List ℕ) → IsChain Depends n other → last_of other ≡ Some i → cost ticks step other ≤ finish
