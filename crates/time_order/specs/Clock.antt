-- The clock of a run in time order: when each actor is free, and when each message in flight arrives.
use Rattle.std.specs.Prelude.{ℕ, ◌+◌, ◌==◌, max, List, [], ◌∷◌, Option, Some, None, if◌then◌else◌}
use Rattle.message_net.specs.declared.actor.Actor.{Actor}
use Rattle.message_net.specs.declared.actor.MailId.{MailId}
use Rattle.message_net.specs.declared.event.Event.{Event}
use Rattle.message_net.specs.declared.event.Event.TheVariants.{Instr, Evict, Arrive, Handle}
use Rattle.message_net.specs.Pool.{has_id, removed}
use Rattle.machine_rules.specs.State.{State}
use Rattle.machine_rules.specs.Next.{next, actor_index_in, kind_in}
use Rattle.dn_machine.specs.Actors.{receiver_of}
use Rattle.run_timing.specs.declared.network.Network.{Network}
use Rattle.run_timing.specs.declared.ticks.Ticks.{Ticks}
use Rattle.run_timing.specs.Network.{delay}
use Rattle.run_timing.specs.Ticks.{ticks_of}

pub record Clock : Type 0 where
  -- when the last event of the actor at an index finished; 0 before its first
  pub free : ℕ → ℕ
  -- when a message in flight arrives at its receiver
  pub arrival : MailId → ℕ

abbrev pub clock_at_start : Clock
clock_at_start = record { free = λ place. 0; arrival = λ id. 0 }

-- the index of an actor, if there is one
abbrev pub index_if_any : State → Option Actor → ℕ
index_if_any S None = 0
index_if_any S (Some a) = actor_index_in S a

-- the receiver of a message in flight, and its index
abbrev pub receiver_in : State → MailId → Option Actor
receiver_in S id = receiver_of (removed id S.mails).0

-- the index of the actor that makes an event: a core its own, the receiver of a message its handling
abbrev pub place_in : State → Event → ℕ
place_in S (Instr core) = core.0
place_in S (Evict core word) = core.0
place_in S (Arrive core) = core.0
place_in S (Handle id) = index_if_any S (receiver_in S id)

-- when an event can start: a core's own event when the core is free; the handling of a message when it has arrived and its receiver
-- is free
abbrev pub start_of : State → Clock → Event → ℕ
start_of S K (Instr core) = K.free core.0
start_of S K (Evict core word) = K.free core.0
start_of S K (Arrive core) = K.free core.0
start_of S K (Handle id) = max (K.arrival id) (K.free (index_if_any S (receiver_in S id)))

-- it finishes the ticks of its kind later
abbrev pub finish_of : Ticks → State → Clock → Event → ℕ
finish_of ticks S K e = start_of S K e + ticks_of ticks (kind_in S e)

-- how long a message in flight is under way in all
abbrev pub delay_to : Network → State → Actor → Option Actor → ℕ
delay_to network S from None = 0
delay_to network S from (Some to) = delay network S.setting.shape from to

abbrev pub delay_in : Network → State → MailId → ℕ
delay_in network S id = delay_to network S id.sender (receiver_in S id)

-- the clock after an event: its actor is free when the event finishes, and what it sends arrives after its delay
abbrev pub clock_after_event : Ticks → Network → State → Clock → Event → Clock
clock_after_event ticks network S K e =
    record {
      free = λ place. if place == place_in S e then finish_of ticks S K e else K.free place;
      arrival = λ id. if has_id id S.mails then K.arrival id else finish_of ticks S K e + delay_in network (next S e) id;
    }

-- the clock after several events
abbrev pub clock_behind : Ticks → Network → State → Clock → List Event → Clock
clock_behind ticks network S K [] = K
clock_behind ticks network S K (e ∷ es) = clock_behind ticks network (next S e) (clock_after_event ticks network S K e) es
