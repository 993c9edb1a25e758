-- The numbers of the actors' next mails in a round.
use Rattle.std.specs.Prelude.{ℕ, ◌≤◌, take}
use Rattle.dn_base.specs.declared.limits.TheConstants.{MOST_EVENTS}
use Rattle.message_net.specs.declared.actor.Actor.{Actor}
use Rattle.registration_protocol.specs.Node.{Setting}
use Rattle.machine_rules.specs.State.{State}
use Rattle.machine_rules.specs.Next.{next_number}
use Rattle.machine_rules.specs.Runs.{after}
use Rattle.host_workers.specs.Members.{IsIn}
use Rattle.host_workers.specs.Rounds.{Round, events_of}

-- the number of each actor's next mail is at most 25,169,664, the greatest number of events of a run: after each prefix of the
-- round's events, and in T, where the round ended
pub record AreNumbersLow (C : Setting) (S T : State) (r : Round) : Type 0 where
  pub along : (count : ℕ) (a : Actor) → IsIn C a → next_number (after S (take count (events_of r.merged))) a ≤ MOST_EVENTS
  pub ended : (a : Actor) → IsIn C a → next_number T a ≤ MOST_EVENTS
