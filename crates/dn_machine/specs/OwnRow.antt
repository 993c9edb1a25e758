-- Which cores have an own event.
use Rattle.std.specs.Prelude.{◌≡◌, ℕ, ◌+◌, ◌≤◌, List, [], ◌∷◌, take, Option, Some, None, length}
use Rattle.message_net.specs.declared.event.Event.{Event}

-- the numbers of the cores that have an own event, in rising order; the first event of the row is that of core number `core`
abbrev pub cores_with : ℕ → List (Option Event) → List ℕ
cores_with core [] = []
cores_with core (None ∷ os) = cores_with (core + 1) os
cores_with core (Some e ∷ os) = core ∷ cores_with (core + 1) os

-- the row has a place for each of 16 cores, and the first `count` numbers are those of the cores that have an own event
pub record IsListed (own : List (Option Event)) (cores : List ℕ) (count : ℕ) : Type 0 where
  pub whole : length own ≡ 16
  pub listed : take count cores ≡ cores_with 0 own
  pub most : count ≤ 16
