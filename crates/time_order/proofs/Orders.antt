-- The laws of runs in time order.
use Rattle.std.proofs.Common.{◌≤◌, List, [], ◌∷◌, ◌++◌, subst}
use Rattle.message_net.specs.declared.event.Event.{Event}
use Rattle.machine_rules.specs.State.{State}
use Rattle.machine_rules.specs.Next.{next}
use Rattle.machine_rules.specs.Runs.{after}
use Rattle.run_timing.specs.declared.network.Network.{Network}
use Rattle.run_timing.specs.declared.ticks.Ticks.{Ticks}
use Rattle.time_order.specs.Clock.{Clock, start_of, clock_after_event, clock_behind, clock_at_start}
use Rattle.time_order.specs.Laws.{starts_of, NeverFallBehind, NeverFall, NothingIsPassedOver}
use Rattle.time_order.specs.TimeOrder.{IsCandidate, AreInTimeOrder}
use Rattle.time_order.proofs.Reached.{IsReached, well-reached, reached-next}
use Rattle.time_order.proofs.Rising.{candidate-comes, next-least, start-rises}

rising-behind : (ticks : Ticks) (network : Network) (S : State) (K : Clock) (e : Event) (es : List Event) → IsReached S → AreInTimeOrder ticks network S K (e ∷ es)
    → NeverFallBehind (start_of S K e) (starts_of ticks network (next S e) (clock_after_event ticks network S K e) es)
rising-behind ticks network S K e [] reached order = tt
rising-behind ticks network S K e (f ∷ fs) reached order =
    let may = candidate-comes S e (well-reached S reached) order.0.candidate in
    (start-rises ticks network S K e reached order.0 f order.1.0, rising-behind ticks network (next S e) (clock_after_event ticks network S K e) f fs (reached-next S e reached may) order.1)

pub never-fall : (ticks : Ticks) (network : Network) (S : State) (K : Clock) (events : List Event) → IsReached S → AreInTimeOrder ticks network S K events → NeverFall (starts_of ticks network S K events)
never-fall ticks network S K [] reached order = tt
never-fall ticks network S K (e ∷ es) reached order = rising-behind ticks network S K e es reached order

passed-from : (ticks : Ticks) (network : Network) (S : State) (K : Clock) (before rest : List Event) (e other : Event) → AreInTimeOrder ticks network S K (before ++ e ∷ rest) → IsCandidate (after S before) other
    → start_of (after S before) (clock_behind ticks network S K before) e ≤ start_of (after S before) (clock_behind ticks network S K before) other
passed-from ticks network S K [] rest e other order candidate = next-least S K e other order.0 candidate
passed-from ticks network S K (x ∷ xs) rest e other order candidate = passed-from ticks network (next S x) (clock_after_event ticks network S K x) xs rest e other order.1 candidate

pub nothing-passed : (ticks : Ticks) (network : Network) (S : State) (events : List Event) → AreInTimeOrder ticks network S clock_at_start events → NothingIsPassedOver ticks network S events
nothing-passed ticks network S events order before rest e other parts candidate =
    passed-from ticks network S clock_at_start before rest e other (subst (AreInTimeOrder ticks network S clock_at_start) parts order) candidate
