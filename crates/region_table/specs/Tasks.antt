-- The task of a core in a phase.
use Rattle.std.specs.Prelude.{◌≡◌, ℕ, ◌<◌, ◌==◌, Bool, length, Option, Some, slice_get}
use Rattle.std.specs.List.{IsAmong, find}
use Rattle.std.specs.Option.{option_and_then}
use Rattle.region_table.specs.declared.declared.TaskDecl.{TaskDecl}
use Rattle.region_table.specs.declared.declared.Phase.{Phase}
use Rattle.region_table.specs.Program.{ProgramParts}

-- whether a task is one of a core
abbrev pub is_for : ℕ → TaskDecl → Bool
is_for core d = d.core.0 == core

-- the task that the program declares for a core in a phase, if it does
abbrev pub declared : ProgramParts → ℕ → ℕ → Option TaskDecl
declared P phase core = option_and_then (λ (p : Phase). find (is_for core) p.tasks) (slice_get P.phases phase)

-- the task of a core in a phase: the phase is one of the program's, and the task one of the phase's, and of the core
pub record IsDeclaration (P : ProgramParts) (number core : ℕ) (d : TaskDecl) : Type 0 where
  pub phase : Phase
  pub there : slice_get P.phases number ≡ Some phase
  pub within : number < length P.phases
  pub known : IsAmong P.phases phase
  pub among : IsAmong phase.tasks d
  pub own : d.core.0 ≡ core
