-- Worlds by the tasks that a phase declares: how each stands on its core. Only laws cite this.
use Rattle.std.specs.Prelude.{◌≡◌, ◌≢◌, ℕ, ◌+◌, true, List, map, slice_get, Option, Some, None}
use Rattle.std.specs.List.{IsAmong}
use Rattle.dn_base.specs.declared.ids.Grant.{Grant}
use Rattle.region_table.specs.Program.{ProgramParts}
use Rattle.region_table.specs.declared.declared.TaskDecl.{TaskDecl}
use Rattle.region_table.specs.declared.declared.Phase.{Phase}
use Rattle.rv_core.specs.Access.{is_held}
use Rattle.rv_core.specs.declared.need.Need.{Need}
use Rattle.rv_core.specs.declared.need.Need.TheVariants.{Acquire}
use Rattle.flat_machine.specs.Step.{Started, At, step_by}
use Rattle.flat_machine.specs.Phases.{Flat}
use Rattle.flat_machine.specs.Laws.{at_memory}
use Rattle.run_agreement.specs.Worlds.{LeadsToRun}

-- the world in phase number `phase`, which is p: the tasks of the earlier phases, each task of p as `task` says, and a memory
abbrev pub world_of : ℕ → List Started → Phase → (TaskDecl → Started) → List ℕ → Flat
world_of phase past p task m = record { begun = phase + 1; past = past; tasks = map task p.tasks; memory = m }

-- one task has become x; those of other cores are as before
pub record ChangesOne (d : TaskDecl) (x : Started) (old new : TaskDecl → Started) : Type 0 where
  pub own : new d ≡ x
  pub others : (e : TaskDecl) → e.core.0 ≢ d.core.0 → new e ≡ old e

-- the instruction by which the task d does what it needs, on a memory
abbrev pub step_of_task : ProgramParts → (TaskDecl → Started) → TaskDecl → List ℕ → Need → At
step_of_task P task d m need = step_by P (at_memory (task d) m) (Some need)

-- no task of the phase holds the lock
abbrev pub IsFreeAmong : Phase → (TaskDecl → Started) → ℕ → Type 0
IsFreeAmong p task lock = (e : TaskDecl) → IsAmong p.tasks e → is_held (task e).state.held lock ≡ true → ⊥

-- some task of the phase holds the lock
pub record IsHeldAmong (p : Phase) (task : TaskDecl → Started) (lock : ℕ) : Type 0 where
  pub by : TaskDecl
  pub among : IsAmong p.tasks by
  pub holds : is_held (task by).state.held lock ≡ true

-- a task has ended, or wants a lock that a task of the phase holds
abbrev pub IsStoppedAmong : Phase → (TaskDecl → Started) → Option Need → Type 0
IsStoppedAmong p task None = Unit {0}
IsStoppedAmong p task (Some (Acquire lock)) = IsHeldAmong p task lock.0
IsStoppedAmong p task _ = ⊥

-- the world of these tasks, in phase number `phase`, leads to the flat machine's run by the grants
pub record IsAgreed (P : ProgramParts) (fuel : ℕ) (gs : List Grant) (phase : ℕ) (past : List Started) (p : Phase) (task : TaskDecl → Started) (m : List ℕ) : Type 0 where
  pub there : slice_get P.phases phase ≡ Some p
  pub leads : LeadsToRun P fuel gs (world_of phase past p task m)
