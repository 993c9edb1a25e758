-- What the machine can do: which runs there are from a state, and which runs and endings it shares with the flat machine.
use Rattle.std.specs.Prelude.{◌≡◌, ℕ, false, List, [], ◌∷◌, ◌++◌, slice_get, Some}
use Rattle.std.specs.List.{All}
use Rattle.dn_base.specs.declared.ids.Grant.{Grant}
use Rattle.dn_base.specs.declared.ids.LockId.{LockId}
use Rattle.region_table.specs.Program.{ProgramParts}
use Rattle.rv_core.specs.declared.need.Need.TheVariants.{Acquire}
use Rattle.rv_core.specs.declared.ending.Ending.{Ending}
use Rattle.message_net.specs.declared.event.Event.{Event}
use Rattle.message_net.specs.declared.event.Event.TheVariants.{Instr, Handle}
use Rattle.registration_protocol.specs.Node.{NodeParts, Setting, need_now}
use Rattle.flat_machine.specs.declared.ending.FlatEnd.{FlatEnd}
use Rattle.flat_machine.specs.Ending.{flat_end}
use Rattle.machine_rules.specs.State.{State, initial_state}
use Rattle.machine_rules.specs.Next.{next, enabled}
use Rattle.machine_rules.specs.Runs.{after, IsRun, IsCompleteRun, grants_of, all_loads, ending_of_run}

-- ---- Progress.

-- an event handles a message
abbrev pub IsHandling : Event → Type 0
IsHandling (Handle id) = Unit {0}
IsHandling _ = ⊥

-- from S a run in which messages are handled, and nothing else comes, leads to a state with no message in flight
pub record IsEmptied (S : State) : Type 0 where
  pub events : List Event
  pub run : IsRun S events
  pub handles : All IsHandling events
  pub empty : (after S events).mails ≡ []

-- a run from S in which messages are handled, and nothing else comes, until no message can be handled any more
pub record IsHandledOut (S : State) (events : List Event) : Type 0 where
  pub run : IsRun S events
  pub handles : All IsHandling events
  pub over : (e : Event) → IsHandling e → enabled (after S events) e ≡ false

-- an event isn't an acquire: the instruction by which a core asks for a lock
abbrev pub AcquiresNothing : State → Event → Type 0
AcquiresNothing S (Instr core) = (n : NodeParts) (lock : LockId) → slice_get S.nodes core.0 ≡ Some n → need_now S.setting n ≡ Some (Acquire lock) → ⊥
AcquiresNothing S _ = Unit {0}

-- each event of a list passes a test in its state
abbrev pub AllAlong : (State → Event → Type 0) → State → List Event → Type 0
AllAlong Fine S [] = Unit {0}
AllAlong Fine S (e ∷ es) = Fine S e × AllAlong Fine (next S e) es

-- no message is in flight, and each core that is neither halted nor at the barrier wants a lock: the next instruction of its task
-- acquires it, and may have asked for it already
pub record StandsAtLocks (S : State) : Type 0 where
  pub empty : S.mails ≡ []
  pub wants : (core : ℕ) (n : NodeParts) → slice_get S.nodes core ≡ Some n → n.halted ≡ false → n.arrived ≡ false → (lock : LockId) × (need_now S.setting n ≡ Some (Acquire lock))

-- nothing but acquires may come
abbrev pub IsOverButForLocks : State → Type 0
IsOverButForLocks S = (e : Event) → AcquiresNothing S e → enabled S e ≡ false

-- a run without acquires from S leads to a state in which only locks hold cores up
pub record ComesToLocks (S : State) : Type 0 where
  pub events : List Event
  pub run : IsRun S events
  pub others : AllAlong AcquiresNothing S events
  pub at_locks : StandsAtLocks (after S events)

-- the run goes on to a complete one
pub record IsCompleted (S : State) (events : List Event) : Type 0 where
  pub more : List Event
  pub complete : IsCompleteRun S (events ++ more)

-- ---- The machine and the flat machine.

-- some run of the machine, complete or not, makes exactly these grants, in this order
pub record HasGrants (C : Setting) (gs : List Grant) : Type 0 where
  pub events : List Event
  pub run : IsRun (initial_state C) events
  pub grants : grants_of (initial_state C) events ≡ gs

-- some complete run of the machine makes exactly these grants, in this order, and has this end: the loads of each task, how each
-- task that started ended, the memory, and the outcome
pub record HasRunBy (C : Setting) (gs : List Grant) (end' : FlatEnd) : Type 0 where
  pub events : List Event
  pub complete : IsCompleteRun (initial_state C) events
  pub grants : grants_of (initial_state C) events ≡ gs
  pub loads : all_loads (initial_state C) events ≡ end'.loads
  pub ending : ending_of_run (initial_state C) events ≡ end'.ending

-- some complete run of the machine ends so
pub record CanEnd (C : Setting) (ending : Ending) : Type 0 where
  pub events : List Event
  pub complete : IsCompleteRun (initial_state C) events
  pub ends : ending_of_run (initial_state C) events ≡ ending

-- the flat machine ends so by some legal and whole list of grants
pub record FlatCanEnd (P : ProgramParts) (fuel : ℕ) (ending : Ending) : Type 0 where
  pub grants : List Grant
  pub end' : FlatEnd
  pub run : flat_end P fuel grants ≡ Some end'
  pub ends : end'.ending ≡ ending
