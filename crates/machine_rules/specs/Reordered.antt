-- States that differ only in the order of their mails in flight, and what they have in common.
use Rattle.std.specs.Prelude.{◌≡◌, ◌↔◌, List, IsPermutation}
use Rattle.message_net.specs.declared.event.Event.{Event}
use Rattle.machine_rules.specs.State.{State}
use Rattle.machine_rules.specs.Next.{next, enabled, observed}
use Rattle.machine_rules.specs.Memory.{memory_of}
use Rattle.machine_rules.specs.Runs.{after, IsRun}
use Rattle.machine_rules.specs.Coherent.{Coherent}

-- two states are the same except for the order of the mails in flight
pub record IsReordered (S T : State) : Type 0 where
  pub mails : IsPermutation S.mails T.mails
  pub rest : T ≡ record S { mails = T.mails }

-- two states behave alike, except for the order of the mails in flight
pub record GoOnAlike (S T : State) : Type 0 where
  -- an event may come in both states or in neither
  pub comes : (e : Event) → enabled S e ≡ enabled T e
  -- an event tells the same in both, and the states after it differ only in that order
  pub tells : (e : Event) → observed S e ≡ observed T e
  pub leads : (e : Event) → IsReordered (next S e) (next T e)
  -- both states are coherent or neither is, and they show the same words
  pub coherent : Coherent S ↔ Coherent T
  pub words : memory_of S ≡ memory_of T
  -- they have the same runs, and the states after a run differ only in that order
  pub runs : (events : List Event) → IsRun S events ↔ IsRun T events
  pub ends : (events : List Event) → IsRun S events → IsReordered (after S events) (after T events)
