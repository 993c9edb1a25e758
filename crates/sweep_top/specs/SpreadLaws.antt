-- Definitions for the law of the least and the most, in src/laws.rt.
use Rattle.std.specs.Prelude.{ℕ, ◌≤◌, List, All, Contains}
use Rattle.sweep_top.specs.declared.spread.Spread.{Spread}

-- these are the least and the most of the numbers
pub record IsSpreadOf (xs : List ℕ) (q : Spread) : Type 0 where
  -- no number is below the least or above the most
  pub between : All (λ (x : ℕ). (q.least ≤ x) × (x ≤ q.most)) xs
  -- both are among the numbers
  pub least : Contains xs q.least
  pub most : Contains xs q.most
