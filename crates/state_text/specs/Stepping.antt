-- A machine that its caller steps, one event after the other.
use Rattle.std.specs.Prelude.{◌≡◌, ◌+◌, true, List, [], ◌∷◌, length}
use Rattle.message_net.specs.declared.event.Event.{Event}
use Rattle.registration_protocol.specs.Node.{Setting}
use Rattle.machine_rules.specs.State.{initial_state}
use Rattle.machine_rules.specs.Next.{next, enabled}
use Rattle.machine_rules.specs.Runs.{after, IsRun, IsOver, IsCompleteRun}
use Rattle.dn_machine.specs.Kept.{Made}
use Rattle.dn_machine.specs.Run.{IsTrueAfter, AgreesAfter}

-- the event was enabled, and the machine has made it
pub record HasMadeEvent (before after : Made) (event : Event) : Type 0 where
  pub may : enabled before.state event ≡ true
  pub state : after.state ≡ next before.state event
  pub made : after.made ≡ before.made + 1

-- these events lead from one machine to another: each was enabled in its turn
abbrev pub HasMadeEvents : Made → List Event → Made → Type 0
HasMadeEvents before [] after = after ≡ before
HasMadeEvents before (e ∷ es) after = (between : Made) × HasMadeEvent before between e × HasMadeEvents between es after

-- the machine is in the state of a run: the events are a run of the initial machine of the setting, and lead to it
pub record IsInRun (C : Setting) (events : List Event) (m : Made) : Type 0 where
  pub run : IsRun (initial_state C) events
  pub leads : m.state ≡ after (initial_state C) events
  pub count : m.made ≡ length events
  -- so it is coherent, its words are the memory after the stores so far, and a load that comes next reads that memory
  pub is_true : IsTrueAfter (initial_state C) events
  -- the loads so far are prefixes of the flat machine's by the grants so far
  pub agrees : AgreesAfter C events
  -- where no event is enabled, the run is complete
  pub over : IsOver m.state → IsCompleteRun (initial_state C) events
