-- Which events of a range are on the chain.
use Rattle.std.specs.Prelude.{◌≡◌, ℕ, ◌+◌, ◌<◌, ◌==◌, Bool, List, length, slice_get, Some}
use Rattle.std.specs.List.{list_any}

-- whether an event is on the chain
abbrev pub is_on_chain : List ℕ → ℕ → Bool
is_on_chain chain event = list_any (λ (number : ℕ). number == event) chain

-- a mark for each of this many events from the first one on: whether it is on the chain
pub record AreMarks (chain : List ℕ) (first count : ℕ) (marks : List Bool) : Type 0 where
  pub all : length marks ≡ count
  pub each : (i : ℕ) → i < count → slice_get marks i ≡ Some (is_on_chain chain (first + i))
