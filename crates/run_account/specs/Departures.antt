-- Why a core no longer has an entry of a word: what last happened to its entry.
use Rattle.std.specs.Prelude.{ℕ, Bool, ◌&&◌, ◌==◌, not, List, [], length, map, replicate, slice_get, slice_set, slice_index_or, Option, Some, None, if◌then◌else◌}
use Rattle.std.specs.List.{enumerate_from}
use Rattle.std.specs.Option.{is_some, option_or}
use Rattle.message_net.specs.declared.actor.Actor.{Actor}
use Rattle.message_net.specs.declared.actor.Actor.TheVariants.{Core}
use Rattle.message_net.specs.declared.event.Event.{Event}
use Rattle.message_net.specs.declared.event.Event.TheVariants.{Evict, Handle}
use Rattle.message_net.specs.declared.message.Mail.{Mail}
use Rattle.message_net.specs.declared.message.Message.{Message}
use Rattle.message_net.specs.declared.message.Message.TheVariants.{RegFwd, WbAck, Grant, Go}
use Rattle.message_net.specs.Pool.{removed}
use Rattle.registration_protocol.specs.Node.{NodeParts, Setting, entry_of}
use Rattle.registration_protocol.specs.OwnEvents.{evicted}
use Rattle.registration_protocol.specs.Messages.{node_gets}
use Rattle.machine_rules.specs.State.{State}
use Rattle.run_account.specs.declared.departure.Departure.{Departure}
use Rattle.run_account.specs.declared.departure.Departure.TheVariants as why

-- whether a node's entry of a word is removed when the node becomes another one
abbrev pub goes : NodeParts → NodeParts → ℕ → Bool
goes before after w = is_some (entry_of before w) && not (is_some (entry_of after w))

-- why an entry is removed at a message
abbrev pub reason : Message → Option Departure
reason (Go phase) = Some why.Phase
reason (Grant lock signature) = Some why.Lock
reason (WbAck word) = Some why.Evicted
reason (RegFwd word core) = Some why.Taken
reason _ = None

-- why a node's entry of a word is removed at an eviction, and at a message, if it is removed
abbrev pub gone_by_eviction : Setting → NodeParts → ℕ → NodeParts → Option Departure
gone_by_eviction C n w after = if goes n after w then Some why.Evicted else None

abbrev pub gone_by_message : NodeParts → ℕ → Message → NodeParts → Option Departure
gone_by_message n w message after = if goes n after w then reason message else None

-- why a core's entry of a word is removed at an event, if it is removed
abbrev pub gone_at_eviction : State → Option NodeParts → Event → ℕ → Option Departure
gone_at_eviction S (Some n) (Evict core word) w = gone_by_eviction S.setting n w (evicted S.setting n word).0
gone_at_eviction S _ _ w = None

abbrev pub gone_at_message : State → Option NodeParts → Message → ℕ → Option Departure
gone_at_message S None message w = None
gone_at_message S (Some n) message w = gone_by_message n w message (node_gets S.setting n message).0

abbrev pub gone_at_mail : State → ℕ → ℕ → Actor → Message → Option Departure
gone_at_mail S c w (Core core) message = if core.0 == c then gone_at_message S (slice_get S.nodes c) message w else None
gone_at_mail S c w _ message = None

abbrev pub gone_with : State → ℕ → ℕ → Option Mail → Option Departure
gone_with S c w None = None
gone_with S c w (Some m) = gone_at_mail S c w m.to m.message

unfoldable pub gone_in : State → Event → ℕ → ℕ → Option Departure
gone_in S (Evict core word) c w = if core.0 == c then gone_at_eviction S (slice_get S.nodes c) (Evict core word) w else None
gone_in S (Handle id) c w = gone_with S c w (removed id S.mails).0
gone_in S _ c w = None

-- what last happened to each core's entry of each word: a row for each core, with a place for each word; None if no entry of
-- the core for the word was ever removed
abbrev pub Departures : Type 0
Departures = List (List (Option Departure))

abbrev pub no_departures : Setting → Departures
no_departures C = replicate C.shape.cores (replicate (length C.program.memory) None)

abbrev pub departures_at : Departures → ℕ → List (Option Departure)
departures_at D c = slice_index_or D c []

abbrev pub departure_at : Departures → ℕ → ℕ → Option Departure
departure_at D c w = slice_index_or (departures_at D c) w None

-- the same after the entry of one word is removed, and after those are removed that a function says
abbrev pub departed : Departures → ℕ → ℕ → Departure → Departures
departed D c w why = slice_set D c (slice_set (departures_at D c) w (Some why))

unfoldable pub row_departed : (ℕ → Option Departure) → List (Option Departure) → List (Option Departure)
row_departed gone row = map (λ (last : ℕ × Option Departure). option_or (gone last.0) last.1) (enumerate_from 0 row)

unfoldable pub departures_with : (ℕ → ℕ → Option Departure) → Departures → Departures
departures_with gone D = map (λ (row : ℕ × List (Option Departure)). row_departed (gone row.0) row.1) (enumerate_from 0 D)

-- the same after an event
abbrev pub departures_after : State → Event → Departures → Departures
departures_after S e D = departures_with (gone_in S e) D
