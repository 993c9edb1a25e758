-- What events change in a machine: a part of its state.
use Rattle.std.specs.Prelude.{◌≡◌, ℕ, ◌+◌, ◌-◌, ◌<◌, ◌≤◌, List, ◌++◌, length, map, replicate, slice_get, slice_index, Option, Some, None}
use Rattle.message_net.specs.declared.actor.Actor.{Actor}
use Rattle.message_net.specs.declared.event.Event.{Event}
use Rattle.message_net.specs.Pool.{count_of}
use Rattle.registration_protocol.specs.Node.{NodeParts, Setting}
use Rattle.registration_protocol.specs.Fit.{IsContext, Fits}
use Rattle.registration_protocol.specs.OwnEvents.{own_event}
use Rattle.machine_rules.specs.State.{State}
use Rattle.machine_rules.specs.Next.{actor_index_in}
use Rattle.dn_machine.specs.declared.content.Content.{Content}

-- the state of a machine of a setting with this content
abbrev pub state_of : Setting → Content → State
state_of C c =
    record { setting = C; nodes = c.nodes.items; banks = c.banks.items; keeper = c.keeper; mails = c.pool.mails; numbers = c.numbers }

-- the own events of the cores in their order, in a row with a place for each of 16 cores
abbrev pub in_row : List (Option Event) → List (Option Event)
in_row own = own ++ replicate (16 - length own) None

-- the own event of each core is known
abbrev pub KnowsOwn : Setting → Content → Type 0
KnowsOwn C c = c.own ≡ in_row (map (own_event C) c.nodes.items)

-- every actor may send more mails: there is room for a mail to each core, the numbers of mails fit 32 bits, and no mail in
-- flight has a number that is still to be used
pub record MaySend (S : State) : Type 0 where
  pub room : length S.mails + S.setting.shape.cores < 4294967295
  pub few : (place : ℕ) → slice_index S.numbers place + S.setting.shape.cores < 4294967295
  pub fresh : (from : Actor) (number : ℕ) → slice_index S.numbers (actor_index_in S from) ≤ number → count_of (record { sender = from; number = number }) S.mails ≡ 0

-- each node fits the setting, and there are as many numbers as actors
pub record IsWhole (S : State) : Type 0 where
  pub context : IsContext S.setting
  pub cores : length S.nodes ≡ S.setting.shape.cores
  pub some : 1 ≤ S.setting.shape.cores
  pub most : S.setting.shape.cores ≤ 16
  pub banks : length S.banks ≡ S.setting.shape.banks
  pub numbers : length S.numbers ≡ S.setting.shape.cores + S.setting.shape.banks + 1
  pub fits : (core : ℕ) (n : NodeParts) → slice_get S.nodes core ≡ Some n → Fits S.setting n
  pub sends : MaySend S
