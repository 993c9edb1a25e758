-- An upper bound for the events of a run: by the instructions that its tasks have retired, and the tasks that have started.
use Rattle.std.specs.Prelude.{ℕ, ◌+◌, ◌==◌, List, [], ◌∷◌, length, sum_by, slice_get, Option, Some, None, if◌then◌else◌}
use Rattle.std.specs.Option.{option_or}
use Rattle.region_table.specs.declared.declared.TaskDecl.{TaskDecl}
use Rattle.region_table.specs.declared.declared.Phase.{Phase}
use Rattle.region_table.specs.Program.{tasks_of}
use Rattle.rv_core.specs.declared.task.TaskState.{TaskState}
use Rattle.message_net.specs.declared.event.Event.{Event}
use Rattle.registration_protocol.specs.Node.{NodeParts}
use Rattle.registration_protocol.specs.Parts.{retired_so_far}
use Rattle.machine_rules.specs.State.{State}
use Rattle.machine_rules.specs.Next.{next}
use Rattle.machine_rules.specs.Runs.{after, begun_in}

-- the task of a core in a phase: None if the core's node isn't in that phase, or has no task in it
abbrev pub task_in_phase : ℕ → Option NodeParts → Option TaskState
task_in_phase phase None = None
task_in_phase phase (Some n) = if n.phase == phase then n.task else None

-- the task as its node last had it: None if the node hasn't reached the phase yet
abbrev pub last_task : ℕ → ℕ → State → List Event → Option TaskState
last_task phase core S [] = task_in_phase phase (slice_get S.nodes core)
last_task phase core S (e ∷ es) = option_or (last_task phase core (next S e) es) (task_in_phase phase (slice_get S.nodes core))

-- the instructions that the tasks of some phases have retired, the first of which is phase number `phase`
abbrev pub retired_from : ℕ → List Phase → State → List Event → ℕ
retired_from phase [] S events = 0
retired_from phase (p ∷ ps) S events =
    sum_by (λ (d : TaskDecl). retired_so_far (last_task phase d.core.0 S events)) p.tasks + retired_from (phase + 1) ps S events

-- the instructions that all started tasks have retired, each as its node last had it
abbrev pub retired_in : State → List Event → ℕ
retired_in S events = retired_from 0 (begun_in (after S events)) S events

-- how many tasks have started: those of the phases that have begun
abbrev pub started_in : State → List Event → ℕ
started_in S events = length (tasks_of (begun_in (after S events)))
