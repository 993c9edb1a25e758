-- The result of a picked event, and what a run notes of its events.
use Rattle.std.specs.Prelude.{◌≡◌, ℕ, List, [], ◌∷◌, ◌++◌, slice_get, Option, Some, None}
use Rattle.dn_base.specs.declared.ids.CoreId.{CoreId}
use Rattle.dn_base.specs.declared.ids.Grant.{Grant}
use Rattle.rv_core.specs.declared.ending.TaskEnd.{TaskEnd}
use Rattle.message_net.specs.declared.actor.Actor.{Actor}
use Rattle.message_net.specs.declared.actor.Actor.TheVariants.{Core, Bank, Keeper}
use Rattle.message_net.specs.declared.event.Event.{Event}
use Rattle.message_net.specs.declared.event.Event.TheVariants.{Instr, Evict, Arrive, Handle}
use Rattle.message_net.specs.declared.event.EventKind.{EventKind}
use Rattle.grant_log.specs.Counts.{no_counts, added, AreCounts}
use Rattle.machine_rules.specs.State.{State}
use Rattle.machine_rules.specs.Next.{next, observed}
use Rattle.machine_rules.specs.Runs.{after, grants_of, kinds_of}
use Rattle.machine_rules.specs.Sound.{IsMachine}
use Rattle.run_agreement.specs.Agreed.{listed}
use Rattle.dn_machine.specs.Actors.{actor_in}
use Rattle.dn_machine.specs.Ends.{end_at, no_ends, with_end, AreLastEnds}
use Rattle.dn_machine.specs.Schedule.{IsScheduled}
use Rattle.dn_machine.specs.declared.log.Happened.{Happened}
use Rattle.dn_machine.specs.declared.log.Log.{Log}

-- the core whose event it is; None for the handling of a mail
abbrev pub own_core : Event → Option CoreId
own_core (Instr core) = Some core
own_core (Evict core word) = Some core
own_core (Arrive core) = Some core
own_core (Handle id) = None

-- the core that an actor is, if there is one and it is a core
abbrev pub core_of : Option Actor → Option CoreId
core_of (Some (Core core)) = Some core
core_of (Some (Bank bank)) = None
core_of (Some Keeper) = None
core_of None = None

-- the core that an event changes: the one that makes it
abbrev pub core_in : State → Event → Option CoreId
core_in S e = core_of (actor_in S e)

-- how the task of that core stands in a state
abbrev pub end_there : State → Option CoreId → Option TaskEnd
end_there T None = None
end_there T (Some core) = end_at (slice_get T.nodes core.0)

-- an event came in state S and led to T: what was observed of it, and how the task of the core that it changed stands then
pub record HasCome (S T : State) (h : Happened) : Type 0 where
  pub next : T ≡ next S h.event
  pub observed : h.observed ≡ observed S h.event
  pub end : h.end ≡ end_there T (core_in S h.event)

-- the log of no event, for a program of this many phases
abbrev pub no_log : ℕ → Log
no_log phases = record { events = []; grants = []; counts = no_counts; ends = no_ends phases }

-- the log with one event more, its kind, the grant that it tells, and how the task of the core that it changed stands
abbrev pub with_told : Event → EventKind → Option Grant → Option TaskEnd → Log → Log
with_told event kind granted end log =
    record {
      events = log.events ++ event ∷ [];
      grants = log.grants ++ listed granted;
      counts = added kind log.counts;
      ends = with_end end log.ends;
    }

-- the same, of an event with what was observed of it
abbrev pub with_event : Happened → Log → Log
with_event h log = with_told h.event h.observed.kind h.observed.granted h.end log

-- an event came in state S, led to T, and is now the last one of the log
pub record CameAndNoted (S T : State) (e : Event) (log more : Log) : Type 0 where
  pub told : Happened
  pub event : told.event ≡ e
  pub came : HasCome S T told
  pub noted : more ≡ with_event told log

-- a log of the events of a run from a state on
pub record IsLogOf (S : State) (es : List Event) (log : Log) : Type 0 where
  pub events : log.events ≡ es
  pub granted : log.grants ≡ grants_of S es
  pub counted : AreCounts (kinds_of S es) log.counts
  pub ends : AreLastEnds S es log.ends

-- a log of the whole run of a seed, and the state to which it led
pub record HasRun (S : State) (seed : ℕ) (T : State) (log : Log) : Type 0 where
  pub scheduled : IsScheduled S seed log.events
  pub leads : T ≡ after S log.events
  pub machine : IsMachine T
  pub logged : IsLogOf S log.events log
