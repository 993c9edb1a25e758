-- The ticks by the place of an event are within the limits where those of each place are.
use Rattle.std.proofs.Common.{ℕ, ◌≤◌, arith}
use Rattle.std.specs.Int.{IsInRange}
use Rattle.message_net.specs.declared.event.EventKind as kind
use Rattle.message_net.specs.declared.event.EventKind.{EventKind}
use Rattle.run_report.specs.Run.{all_kinds}
use Rattle.run_timing.specs.declared.network.Network.{Network}
use Rattle.run_timing.specs.declared.ticks.Ticks.{Ticks}
use Rattle.run_timing.specs.Network.{IsWithinLatency}
use Rattle.run_timing.specs.Ticks.{ticks_of, ticks_by, through, AreWithinLimits}

by_place-events : (core bank mail : ℕ) → IsInRange 1 1000000 core → IsInRange 1 1000000 bank → IsInRange 1 1000000 mail
    → (kind : EventKind) → (1 ≤ ticks_of (ticks_by core bank mail) kind) × (ticks_of (ticks_by core bank mail) kind ≤ 1000000)
unfolding all_kinds
by_place-events core bank mail c b m kind.TheVariants.Instr = c
by_place-events core bank mail c b m kind.TheVariants.Evict = c
by_place-events core bank mail c b m kind.TheVariants.Arrive = c
by_place-events core bank mail c b m kind.TheVariants.ReadReq = b
by_place-events core bank mail c b m kind.TheVariants.ReadFwd = m
by_place-events core bank mail c b m kind.TheVariants.DataReply = m
by_place-events core bank mail c b m kind.TheVariants.RegReq = b
by_place-events core bank mail c b m kind.TheVariants.RegFwd = m
by_place-events core bank mail c b m kind.TheVariants.RegAck = m
by_place-events core bank mail c b m kind.TheVariants.WriteBack = b
by_place-events core bank mail c b m kind.TheVariants.WbAck = m
by_place-events core bank mail c b m kind.TheVariants.Acquire = b
by_place-events core bank mail c b m kind.TheVariants.Release = b
by_place-events core bank mail c b m kind.TheVariants.Grant = m
by_place-events core bank mail c b m kind.TheVariants.Arrived = m
by_place-events core bank mail c b m kind.TheVariants.Go = m
by_place-events core bank mail c b m kind.TheVariants.Halt = m

pub by_place-within : (core bank mail : ℕ) → IsInRange 1 1000000 core → IsInRange 1 1000000 bank → IsInRange 1 1000000 mail → AreWithinLimits (ticks_by core bank mail)
by_place-within core bank mail c b m = record { events = by_place-events core bank mail c b m; messages = omega arith }

-- with another network they are within the limits where that is
pub with-network : (ticks : Ticks) (network : Network) → AreWithinLimits ticks → IsWithinLatency network → AreWithinLimits (through network ticks)
with-network ticks network limits latency = record { events = λ kind. limits.events kind; messages = latency }
