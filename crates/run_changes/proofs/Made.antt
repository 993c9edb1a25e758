-- What is told of an event that came is what the event does.
use Rattle.std.proofs.Common.{◌≡◌, ℕ, refl}
use Rattle.message_net.specs.declared.actor.Actor.{Actor}
use Rattle.message_net.specs.declared.event.Event.{Event}
use Rattle.machine_rules.specs.State.{State}
use Rattle.machine_rules.specs.declared.stepped.Stepped.{Stepped}
use Rattle.dn_machine.specs.Tried.{HasStepped}
use Rattle.run_changes.specs.declared.look.Look.{Look}
use Rattle.run_changes.specs.Looks.{look_at}
use Rattle.run_changes.specs.Events.{event_changes, sent_in, count_left_by, event_told, event_made}

pub made_is : (S T : State) (e : Event) (look : Look) (left : ℕ) (came : Actor × Stepped) → HasStepped S T e came → look ≡ look_at S e → left ≡ count_left_by S.mails e
    → event_told T look left came ≡ event_made S e
unfolding event_changes sent_in
made_is S T e look left (a, s) stepped is count = rw (is, count, stepped.state, stepped.observed, stepped.actor) refl
