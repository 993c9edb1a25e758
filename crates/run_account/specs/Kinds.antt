-- How many events of a kind a run has.
use Rattle.std.specs.Prelude.{ℕ, Bool, ◌==◌, List, count_by}
use Rattle.message_net.specs.declared.event.Event.{Event}
use Rattle.message_net.specs.declared.event.EventKind.{EventKind}
use Rattle.message_net.specs.Kind.{kind_index}
use Rattle.machine_rules.specs.State.{State}
use Rattle.machine_rules.specs.Runs.{kinds_of, after, IsRun}
use Rattle.machine_rules.specs.Coherent.{Coherent}

-- whether a kind is this one
abbrev pub is_kind : EventKind → EventKind → Bool
is_kind kind other = kind_index kind == kind_index other

-- how many of the events from a state on are of a kind
abbrev pub events_of_kind : EventKind → State → List Event → ℕ
events_of_kind kind S events = count_by (is_kind kind) (kinds_of S events)

-- every run from a state leads to a coherent one
abbrev pub StaysCoherent : State → Type 0
StaysCoherent S = (events : List Event) → IsRun S events → Coherent (after S events)
