-- How the tasks of a run stand, and what it means that a state of the machine agrees with the flat machine's run. No contract
-- cites this: it is the invariant by which the laws are proved.
use Rattle.std.specs.Prelude.{◌≡◌, ℕ, ◌+◌, ◌<◌, List, [], ◌∷◌, ◌++◌, map, take, slice_get, slice_index, Option, Some, None}
use Rattle.std.specs.Option.{option_or}
use Rattle.dn_base.specs.declared.ids.Grant.{Grant}
use Rattle.dn_base.specs.declared.ids.LoadSeen.{LoadSeen}
use Rattle.region_table.specs.declared.declared.TaskDecl.{TaskDecl}
use Rattle.region_table.specs.declared.declared.Phase.{Phase}
use Rattle.region_table.specs.Tasks.{declared}
use Rattle.rv_core.specs.declared.task.TaskState.{TaskState}
use Rattle.rv_core.specs.declared.task.End.{End}
use Rattle.rv_core.specs.declared.ending.TaskEnd.{TaskEnd}
use Rattle.rv_core.specs.Ending.{shown_end}
use Rattle.rv_core.specs.Task.{started}
use Rattle.flat_machine.specs.Step.{Started}
use Rattle.run_agreement.specs.Cores.{IsAgreed}
use Rattle.message_net.specs.declared.event.Event.{Event}
use Rattle.registration_protocol.specs.Node.{NodeParts, Setting}
use Rattle.machine_rules.specs.State.{State}
use Rattle.machine_rules.specs.Next.{granted_in}
use Rattle.machine_rules.specs.Runs.{load_of, end_in_phase}

-- by phase and core: how the core's task of the phase stands, or stood when the phase was over, and its loads
abbrev pub States : Type 0
States = ℕ → ℕ → TaskState

abbrev pub Loads : Type 0
Loads = ℕ → ℕ → List LoadSeen

-- by phase and core: the last state in which the core's task of the phase was seen to have ended or to wait for a lock
abbrev pub Ends : Type 0
Ends = ℕ → ℕ → Option TaskEnd

-- a task of a phase, as it stands
abbrev pub stands : States → Loads → ℕ → TaskDecl → Started
stands states loads phase d =
    record { phase = record { 0 = phase }; decl = d; state = states phase d.core.0; loads = loads phase d.core.0 }

-- the tasks of some phases, the first of which is phase number `phase`
abbrev pub tasks_from : States → Loads → ℕ → List Phase → List Started
tasks_from states loads phase [] = []
tasks_from states loads phase (p ∷ ps) = map (stands states loads phase) p.tasks ++ tasks_from states loads (phase + 1) ps

-- the nodes of a state have these tasks: a node's task is that of its phase, and tasks of later phases are at their start
pub record AreShown (S : State) (states : States) (loads : Loads) : Type 0 where
  pub here : (c : ℕ) (n : NodeParts) (t : TaskState) → slice_get S.nodes c ≡ Some n → n.task ≡ Some t → states n.phase c ≡ t
  pub ahead : (c phase : ℕ) (n : NodeParts) (d : TaskDecl) → slice_get S.nodes c ≡ Some n → n.phase < phase → declared S.setting.program phase c ≡ Some d → states phase c ≡ started d
  pub unread : (c phase : ℕ) (n : NodeParts) → slice_get S.nodes c ≡ Some n → n.phase < phase → loads phase c ≡ []

-- the task of a phase has ended, and was seen to end so
pub record TaskHasEnded (phase : ℕ) (d : TaskDecl) (t : TaskState) (seen : Option TaskEnd) : Type 0 where
  pub by : End
  pub over : t.end ≡ Some by
  pub shown : seen ≡ Some (record { phase = record { 0 = phase }; core = d.core; end = shown_end by; retired = t.retired })

-- the tasks of the phases before their node's phase have ended, and were seen to end so
abbrev pub AreEnded : State → States → Ends → Type 0
AreEnded S states ends =
    (c phase : ℕ) (n : NodeParts) (d : TaskDecl) → slice_get S.nodes c ≡ Some n → phase < n.phase → declared S.setting.program phase c ≡ Some d → TaskHasEnded phase d (states phase c) (ends phase c)

-- in phase number `phase`, which is p, the tasks that stand so lead to the flat machine's run by the grants
abbrev pub IsWorldAt : Setting → List Grant → States → Loads → ℕ → Phase → List ℕ → Type 0
IsWorldAt C gs states loads phase p memory =
    IsAgreed C.program C.fuel gs phase (tasks_from states loads 0 (take phase C.program.phases)) p (stands states loads phase) memory

-- a state of the machine agrees with the flat machine's run by the grants so far; M is the memory to which the stores so far
-- were applied, each task has done these loads, and the tasks were seen to end so
pub record Agreed (S : State) (M : ℕ → ℕ) (gs : List Grant) (loads : Loads) (ends : Ends) : Type 0 where
  pub states : States
  pub shown : AreShown S states loads
  pub ended : AreEnded S states ends
  pub memory : List ℕ
  pub same : (w : ℕ) → slice_index memory w ≡ M w
  pub phase : Phase
  pub world : IsWorldAt S.setting gs states loads S.keeper.phase phase memory

-- what an option has, as a list
abbrev pub listed : {X : Type 0} → Option X → List X
listed None = []
listed (Some x) = x ∷ []

-- the grants, and the loads, once an event has come; and the ends that are seen in the state after it
abbrev pub more_grants : List Grant → State → Event → List Grant
more_grants gs S e = gs ++ listed (granted_in S e)

abbrev pub more_loads : Loads → State → Event → Loads
more_loads loads S e phase c = loads phase c ++ listed (load_of phase c S e)

abbrev pub more_ends : Ends → State → Ends
more_ends ends S phase c = option_or (end_in_phase phase (slice_get S.nodes c)) (ends phase c)
