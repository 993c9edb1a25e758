-- An event that is tried: it comes if it may.
use Rattle.std.specs.Prelude.{◌≡◌, true, false, Option, Some, None}
use Rattle.message_net.specs.declared.actor.Actor.{Actor}
use Rattle.message_net.specs.declared.event.Event.{Event}
use Rattle.machine_rules.specs.State.{State}
use Rattle.machine_rules.specs.Next.{next, enabled, observed}
use Rattle.machine_rules.specs.declared.stepped.Stepped.{Stepped}
use Rattle.dn_machine.specs.Actors.{actor_in}

-- an event came in state S and led to state T; `came` has the actor that made it and what it tells
pub record HasStepped (S T : State) (event : Event) (came : Actor × Stepped) : Type 0 where
  pub may : enabled S event ≡ true
  pub actor : actor_in S event ≡ Some came.0
  pub observed : came.1 ≡ observed S event
  pub state : T ≡ next S event

-- the result of trying an event in state S, where T is the state after it: nothing, since it may not come, or it came
abbrev pub IsTried : State → State → Event → Option (Actor × Stepped) → Type 0
IsTried S T event None = (enabled S event ≡ false) × (T ≡ S)
IsTried S T event (Some came) = HasStepped S T event came
