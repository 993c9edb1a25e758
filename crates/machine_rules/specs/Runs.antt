-- Runs: lists of events, each of which may come in its turn; and what is read off them.
use Rattle.std.specs.Prelude.{◌≡◌, ℕ, ◌+◌, ◌==◌, Bool, true, false, ◌&&◌, List, [], ◌∷◌, ◌++◌, map, take, slice_get, Option, Some, None, if◌then◌else◌}
use Rattle.std.specs.Option.{option_or}
use Rattle.std.specs.List.{filter_map}
use Rattle.dn_base.specs.declared.ids.Grant.{Grant}
use Rattle.dn_base.specs.declared.ids.LoadSeen.{LoadSeen}
use Rattle.message_net.specs.declared.event.Event.{Event}
use Rattle.message_net.specs.declared.event.Event.TheVariants.{Instr}
use Rattle.message_net.specs.declared.event.EventKind.{EventKind}
use Rattle.region_table.specs.declared.declared.TaskDecl.{TaskDecl}
use Rattle.region_table.specs.declared.declared.Phase.{Phase}
use Rattle.rv_core.specs.declared.ending.TaskEnd.{TaskEnd}
use Rattle.rv_core.specs.declared.ending.Ending.{Ending}
use Rattle.registration_protocol.specs.Node.{NodeParts}
use Rattle.registration_protocol.specs.OwnEvents.{end_of}
use Rattle.flat_machine.specs.declared.ending.TaskLoads.{TaskLoads}
use Rattle.rv_core.specs.Ending.{ending_of}
use Rattle.machine_rules.specs.State.{State}
use Rattle.machine_rules.specs.Next.{next, enabled, seen_in, granted_in, kind_in}
use Rattle.machine_rules.specs.Memory.{memory_of, store_in, with_store}

-- the state after a list of events
abbrev pub after : State → List Event → State
after S [] = S
after S (e ∷ es) = after (next S e) es

-- each event may come in its turn
abbrev pub IsRun : State → List Event → Type 0
IsRun S [] = Unit {0}
IsRun S (e ∷ es) = (enabled S e ≡ true) × IsRun (next S e) es

-- no event may come any more
abbrev pub IsOver : State → Type 0
IsOver S = (e : Event) → enabled S e ≡ false

-- a run after which no event may come
pub record IsCompleteRun (S : State) (events : List Event) : Type 0 where
  pub run : IsRun S events
  pub over : IsOver (after S events)

-- what the events of a list tell, in their order; an event that tells nothing is left out
abbrev pub read_off : {X : Type 0} → (State → Event → Option X) → State → List Event → List X
read_off tell S [] = []
read_off tell S (e ∷ es) = told_first (tell S e) (read_off tell (next S e) es)
  where
    told_first : {X : Type 0} → Option X → List X → List X
    told_first None rest = rest
    told_first (Some x) rest = x ∷ rest

-- the grants of a run, in the order in which the cores handle them
abbrev pub grants_of : State → List Event → List Grant
grants_of S events = read_off granted_in S events

-- a load that a core's task of a phase completes
abbrev pub in_phase_of : ℕ → Option NodeParts → Bool
in_phase_of phase None = false
in_phase_of phase (Some n) = n.phase == phase

abbrev pub load_of : ℕ → ℕ → State → Event → Option LoadSeen
load_of phase core S (Instr c) =
    if (c.0 == core) && in_phase_of phase (slice_get S.nodes core) then seen_in S (Instr c) else None
load_of phase core S _ = None

-- the loads of a core's task of a phase, in the order in which they retire
abbrev pub loads_of : ℕ → ℕ → State → List Event → List LoadSeen
loads_of phase core S events = read_off (load_of phase core) S events

-- the kinds of the events of a list
abbrev pub kinds_of : State → List Event → List EventKind
kinds_of S [] = []
kinds_of S (e ∷ es) = kind_in S e ∷ kinds_of (next S e) es

-- a memory to which each store is applied as it retires
abbrev pub memory_after : List ℕ → State → List Event → List ℕ
memory_after memory S [] = memory
memory_after memory S (e ∷ es) = memory_after (with_store (store_in S e) memory) (next S e) es

-- how the task of a core in a phase stands: None if the core's node isn't in that phase, has no task, or has a running task
-- that waits for no lock
abbrev pub end_in_phase : ℕ → Option NodeParts → Option TaskEnd
end_in_phase phase None = None
end_in_phase phase (Some n) = if n.phase == phase then end_of n n.task else None

-- how the task stood when its node last had it
abbrev pub last_end : ℕ → ℕ → State → List Event → Option TaskEnd
last_end phase core S [] = end_in_phase phase (slice_get S.nodes core)
last_end phase core S (e ∷ es) = option_or (last_end phase core (next S e) es) (end_in_phase phase (slice_get S.nodes core))

-- the phases that have begun
abbrev pub begun_in : State → List Phase
begun_in S = take (S.keeper.phase + 1) S.setting.program.phases

-- the ends of the tasks of some phases, the first of which is phase number `phase`, in the order of phases and cores
abbrev pub ends_from : ℕ → List Phase → State → List Event → List TaskEnd
ends_from phase [] S events = []
ends_from phase (p ∷ ps) S events =
    filter_map (λ (d : TaskDecl). last_end phase d.core.0 S events) p.tasks ++ ends_from (phase + 1) ps S events

-- the tasks that have started, each with how it stood when its node last had it
abbrev pub ends_of : State → List Event → List TaskEnd
ends_of S events = ends_from 0 (begun_in (after S events)) S events

-- the loads of the tasks of some phases
abbrev pub loads_from : ℕ → List Phase → State → List Event → List TaskLoads
loads_from phase [] S events = []
loads_from phase (p ∷ ps) S events =
    map (λ (d : TaskDecl). record { phase = record { 0 = phase }; core = d.core; loads = loads_of phase d.core.0 S events }) p.tasks
    ++ loads_from (phase + 1) ps S events

abbrev pub all_loads : State → List Event → List TaskLoads
all_loads S events = loads_from 0 (begun_in (after S events)) S events

-- the ending of a complete run: the tasks that started, the memory of its last state, and the outcome
abbrev pub ending_of_run : State → List Event → Ending
ending_of_run S events = ending_of (ends_of S events) (memory_of (after S events))
