-- What is kept of each actor.
use Rattle.std.specs.Prelude.{◌≡◌, ℕ, ◌<◌, List, slice_get, slice_index, Option, Some}
use Rattle.machine_rules.specs.State.{State}
use Rattle.dn_machine.specs.Pick.{own_event_in}
use Rattle.time_order.specs.declared.choice.Choice.{Choice}
use Rattle.time_order.specs.declared.flight.Flight.{Flight}
use Rattle.time_order.specs.Choices.{choice_of}
use Rattle.time_order.specs.Flights.{queue_at}

-- what the actor at an index can start first
abbrev pub choice_at : State → List ℕ → List (List Flight) → ℕ → Option Choice
choice_at S free queues place = choice_of (own_event_in S place) (slice_index free place) (slice_get (queue_at queues place) 0)

-- the choices of the first n actors are noted
abbrev pub AreLooked : State → List ℕ → List (List Flight) → ℕ → List (Option Choice) → Type 0
AreLooked S free queues n choices = (place : ℕ) → place < n → slice_get choices place ≡ Some (choice_at S free queues place)
