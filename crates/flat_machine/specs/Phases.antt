-- Phases on one memory: all the tasks of a phase, and one phase after the other.
use Rattle.std.specs.Prelude.{◌≡◌, ℕ, ◌+◌, ◌*◌, ◌≤◌, Bool, true, false, if◌then◌else◌, List, [], ◌∷◌, ◌++◌, length, drop, slice_get, Option, Some, None, sum_by}
use Rattle.std.specs.List.{All, list_all}
use Rattle.region_table.specs.Program.{ProgramParts, tasks_of}
use Rattle.region_table.specs.declared.declared.TaskDecl.{TaskDecl}
use Rattle.region_table.specs.declared.declared.Phase.{Phase}
use Rattle.rv_core.specs.declared.task.End.{End}
use Rattle.rv_core.specs.declared.task.End as cause
use Rattle.flat_machine.specs.Step.{Started, fresh, segment, room, IsWithin}

-- the flat machine: how many phases have begun, the tasks of the earlier phases, the tasks of the current phase in the order of
-- their cores, and the data words
pub record Flat : Type 0 where
  pub begun : ℕ
  pub past : List Started
  pub tasks : List Started
  pub memory : List ℕ

-- all tasks that have started, in the order of their phases and cores
abbrev pub all_tasks : Flat → List Started
all_tasks F = F.past ++ F.tasks

-- some tasks of a phase after their first segments, and the memory that they leave
pub record Ran : Type 0 where
  pub tasks : List Started
  pub memory : List ℕ

abbrev pub ran_first : Started → Ran → Ran
ran_first r rest = record { tasks = r ∷ rest.tasks; memory = rest.memory }

-- the first segments of some tasks, one after the other, each on the memory that the one before it leaves
abbrev pub run_all : ProgramParts → ℕ → ℕ → List TaskDecl → List ℕ → Ran
run_all P fuel phase [] memory = record { tasks = []; memory = memory }
run_all P fuel phase (d ∷ ds) memory =
    ran_first (segment P fuel (record { task = fresh phase d; memory = memory })).task
    (run_all P fuel phase ds (segment P fuel (record { task = fresh phase d; memory = memory })).memory)

-- a phase begins
abbrev pub begin_with : Flat → Ran → Flat
begin_with F ran =
    record { begun = F.begun + 1; past = F.past ++ F.tasks; tasks = ran.tasks; memory = ran.memory }

unfoldable pub begin : ProgramParts → ℕ → Phase → Flat → Flat
begin P fuel phase F = begin_with F (run_all P fuel F.begun phase.tasks F.memory)

abbrev pub finished_by : Option End → Bool
finished_by (Some cause.TheVariants.Finished) = true
finished_by _ = false

-- whether a task has ended, and not by a trap or because it ran out of fuel
abbrev pub has_finished : Started → Bool
has_finished r = finished_by r.state.end

-- as long as all tasks have finished, the next phase begins
abbrev pub settle : ProgramParts → ℕ → List Phase → Flat → Flat
settle P fuel [] F = F
settle P fuel (phase ∷ left) F =
    if list_all has_finished F.tasks then settle P fuel left (begin P fuel phase F) else F

-- the next phase, if it may begin
abbrev pub next_phase : ProgramParts → Flat → Option Phase
next_phase P F = if list_all has_finished F.tasks then slice_get P.phases F.begun else None

abbrev pub settled : ProgramParts → ℕ → Flat → Flat
settled P fuel F = settle P fuel (drop F.begun P.phases) F

-- before the first phase
abbrev pub initial : ProgramParts → Flat
initial P = record { begun = 0; past = []; tasks = []; memory = P.memory }

-- the machine before any grant
unfoldable pub initial_flat : ProgramParts → ℕ → Flat
initial_flat P fuel = settled P fuel (initial P)

-- an upper bound for the instructions and ends to come: of the tasks that have started, and of the phases that haven't begun
abbrev pub work : ProgramParts → ℕ → Flat → ℕ
work P fuel F = sum_by (room fuel) F.tasks + length (tasks_of (drop F.begun P.phases)) * (fuel + 1)

-- what holds of the machine at each point of a run
pub record IsSoundFlat (P : ProgramParts) (fuel : ℕ) (F : Flat) : Type 0 where
  pub words : length F.memory ≡ length P.memory
  pub begun : F.begun ≤ length P.phases
  pub within : All (IsWithin fuel) F.tasks
  pub count : length F.past + length F.tasks + length (tasks_of (drop F.begun P.phases)) ≤ 64
