-- How long events take, and messages on their way.
use Rattle.std.specs.Prelude.{ℕ, ◌≤◌, map, slice_index_or, List, Option, Some, None}
use Rattle.message_net.specs.declared.event.Event.{Event}
use Rattle.message_net.specs.declared.event.EventKind as kind
use Rattle.message_net.specs.declared.event.EventKind.{EventKind}
use Rattle.message_net.specs.Kind.{kind_index}
use Rattle.machine_rules.specs.State.{State}
use Rattle.run_report.specs.Run.{all_kinds}
use Rattle.run_timing.specs.declared.network.Network.{Network}
use Rattle.run_timing.specs.declared.ticks.Ticks.{Ticks}
use Rattle.run_timing.specs.Depends.{kind_at}
use Rattle.run_timing.specs.Network.{IsWithinLatency, no_latency}

-- the ticks of an event of a kind
abbrev pub ticks_of : Ticks → EventKind → ℕ
ticks_of ticks kind = slice_index_or ticks.kinds (kind_index kind) 0

-- an event of each kind takes 1 to 1,000,000 ticks, and a message at most 1,000,000 for each hop
pub record AreWithinLimits (ticks : Ticks) : Type 0 where
  pub events : (kind : EventKind) → (1 ≤ ticks_of ticks kind) × (ticks_of ticks kind ≤ 1000000)
  pub messages : IsWithinLatency ticks.network

-- the ticks of a kind: `core` for a core's own events, `bank` for those that a bank handles, and `mail` for all others
abbrev pub place_ticks : (core : ℕ) → (bank : ℕ) → (mail : ℕ) → EventKind → ℕ
place_ticks core bank mail kind.TheVariants.Instr = core
place_ticks core bank mail kind.TheVariants.Evict = core
place_ticks core bank mail kind.TheVariants.Arrive = core
place_ticks core bank mail kind.TheVariants.ReadReq = bank
place_ticks core bank mail kind.TheVariants.RegReq = bank
place_ticks core bank mail kind.TheVariants.WriteBack = bank
place_ticks core bank mail kind.TheVariants.Acquire = bank
place_ticks core bank mail kind.TheVariants.Release = bank
place_ticks core bank mail _ = mail

-- messages take no time on their way
abbrev pub ticks_by : (core : ℕ) → (bank : ℕ) → (mail : ℕ) → Ticks
ticks_by core bank mail = record { kinds = map (place_ticks core bank mail) all_kinds; network = no_latency }

-- the same ticks of events, with messages that take another network
abbrev pub through : Network → Ticks → Ticks
through network ticks = record ticks { network = network }

abbrev pub ticks_with : Ticks → Option EventKind → ℕ
ticks_with ticks None = 0
ticks_with ticks (Some kind) = ticks_of ticks kind

-- the ticks of event number i of a list
abbrev pub ticks_at : Ticks → State → List Event → ℕ → ℕ
ticks_at ticks S events i = ticks_with ticks (kind_at S events i)
