-- One event of a replay.
use Rattle.std.specs.Prelude.{◌≡◌, ◌+◌, true, false, Option, Some, None}
use Rattle.message_net.specs.declared.event.Event.{Event}
use Rattle.machine_rules.specs.Next.{enabled}
use Rattle.dn_machine.specs.declared.log.Happened.{Happened}
use Rattle.dn_machine.specs.Kept.{Made, IsKept}
use Rattle.dn_machine.specs.Log.{HasCome}

-- an event came in a machine as it was before, which is another one after it
pub record IsAdvanceBy (before after : Made) (event : Event) (h : Happened) : Type 0 where
  pub may : enabled before.state event ≡ true
  pub event_is : h.event ≡ event
  pub came : HasCome before.state after.state h
  pub made : after.made ≡ before.made + 1
  pub kept : IsKept after.state after.made

-- what came of an event: nothing, as it may not come, or it came
abbrev pub HasAdvanced : Made → Made → Event → Option Happened → Type 0
HasAdvanced before after event None = enabled before.state event ≡ false
HasAdvanced before after event (Some h) = IsAdvanceBy before after event h
