-- What a run in time order looks like on its clock.
use Rattle.std.specs.Prelude.{◌≡◌, ℕ, ◌≤◌, List, [], ◌∷◌, ◌++◌}
use Rattle.message_net.specs.declared.actor.MailId.{MailId}
use Rattle.message_net.specs.declared.event.Event.{Event}
use Rattle.message_net.specs.declared.event.Event.TheVariants.{Handle}
use Rattle.message_net.specs.Pool.{count_of}
use Rattle.machine_rules.specs.State.{State}
use Rattle.machine_rules.specs.Next.{next}
use Rattle.machine_rules.specs.Runs.{after}
use Rattle.run_timing.specs.declared.network.Network.{Network}
use Rattle.run_timing.specs.declared.ticks.Ticks.{Ticks}
use Rattle.time_order.specs.Clock.{Clock, receiver_in, start_of, clock_after_event, clock_behind, clock_at_start}
use Rattle.time_order.specs.TimeOrder.{IsCandidate}

-- when each event starts
abbrev pub starts_of : Ticks → Network → State → Clock → List Event → List ℕ
starts_of ticks network S K [] = []
starts_of ticks network S K (e ∷ es) = start_of S K e ∷ starts_of ticks network (next S e) (clock_after_event ticks network S K e) es

-- no number is less than the one before it
abbrev pub NeverFallBehind : ℕ → List ℕ → Type 0
NeverFallBehind first [] = Unit {0}
NeverFallBehind first (x ∷ xs) = (first ≤ x) × NeverFallBehind x xs

abbrev pub NeverFall : List ℕ → Type 0
NeverFall [] = Unit {0}
NeverFall (x ∷ xs) = NeverFallBehind x xs

-- no candidate is passed over: when an event comes, none of the candidates could have started earlier. So no actor is idle while
-- something is ready for it
abbrev pub NothingIsPassedOver : Ticks → Network → State → List Event → Type 0
NothingIsPassedOver ticks network S events =
    (before rest : List Event) (e other : Event) → events ≡ before ++ e ∷ rest → IsCandidate (after S before) other
    → start_of (after S before) (clock_behind ticks network S clock_at_start before) e ≤ start_of (after S before) (clock_behind ticks network S clock_at_start before) other

-- an actor handles what any one actor sends it in the order of sending: when it handles a message, none that the same sender sent it
-- before is in flight any more
abbrev pub AreHandledAsSent : State → List Event → Type 0
AreHandledAsSent S events =
    (before rest : List Event) (id other : MailId) → events ≡ before ++ Handle id ∷ rest → 1 ≤ count_of other (after S before).mails → other.sender ≡ id.sender
    → receiver_in (after S before) other ≡ receiver_in (after S before) id → id.number ≤ other.number
