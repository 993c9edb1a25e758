-- How long a message is under way between two events, of which the second handles what the first sent.
use Rattle.std.specs.Prelude.{ℕ, ◌+◌, ◌==◌, ◌&&◌, nat_lt, Bool, List, slice_get, Option, Some, None, if◌then◌else◌}
use Rattle.message_net.specs.declared.actor.Actor.{Actor}
use Rattle.message_net.specs.declared.actor.MailId.{MailId}
use Rattle.message_net.specs.declared.event.Event.{Event}
use Rattle.message_net.specs.declared.event.Event.TheVariants.{Handle}
use Rattle.message_net.specs.Pool.{count_of}
use Rattle.machine_rules.specs.State.{State}
use Rattle.run_timing.specs.declared.ticks.Ticks.{Ticks}
use Rattle.run_timing.specs.Depends.{state_at, actor_at}
use Rattle.run_timing.specs.Network.{delay}

-- whether event number i sends the mail with this id: it is in flight after the event, and not before it
abbrev pub is_sent : State → List Event → ℕ → MailId → Bool
is_sent S events i id = (count_of id (state_at S events i).mails == 0) && nat_lt 0 (count_of id (state_at S events (i + 1)).mails)

-- how long a message to an actor, if there is one, is under way
abbrev pub delay_if_any : Ticks → State → MailId → Option Actor → ℕ
delay_if_any ticks S id None = 0
delay_if_any ticks S id (Some to) = delay ticks.network S.setting.shape id.sender to

-- how long the message that event number j handles is under way, if event number i sent it; 0 if it didn't
abbrev pub delay_from : Ticks → State → List Event → ℕ → ℕ → Option Event → ℕ
delay_from ticks S events i j (Some (Handle id)) = if is_sent S events i id then delay_if_any ticks S id (actor_at S events j) else 0
delay_from ticks S events i j _ = 0

abbrev pub step_delay : Ticks → State → List Event → ℕ → ℕ → ℕ
step_delay ticks S events i j = delay_from ticks S events i j (slice_get events j)
