-- What the prover answers, its text, and what the answer says of every run.
use Rattle.std.specs.Prelude.{◌≡◌, ℕ, ◌<◌, List, ◌++◌, codes, slice_get, Option, Some, None}
use Rattle.std.specs.List.{All}
use Rattle.std.specs.Fmt.{decimal}
use Rattle.text_pieces.specs.Pieces.{space, newline, hexadecimal}
use Rattle.dn_base.specs.declared.ids.Grant.{Grant}
use Rattle.region_table.specs.Program.{ProgramParts}
use Rattle.region_table.specs.Tasks.{declared}
use Rattle.region_table.specs.declared.declared.TaskDecl.{TaskDecl}
use Rattle.region_table.specs.declared.declared.Phase.{Phase}
use Rattle.rv_isa.specs.declared.instr.Instr.{Instr}
use Rattle.rv_core.specs.declared.task.End.{End}
use Rattle.rv_core.specs.declared.task.End.TheVariants.{Trap}
use Rattle.rv_core.specs.declared.task.TrapKind as kind
use Rattle.effect_checker.specs.Least.{IsFirst}
use Rattle.flat_machine.specs.Step.{Started}
use Rattle.flat_machine.specs.Phases.{Flat, all_tasks}
use Rattle.flat_machine.specs.Grants.{so_far}
use Rattle.effect_prover.specs.declared.row.Row.{Row}
use Rattle.effect_prover.specs.declared.prover.Found.{Found}
use Rattle.effect_prover.specs.declared.proved.Proved.{Proved}
use Rattle.effect_prover.specs.declared.proved.Proved.TheVariants.{Inside, Unbounded}
use Rattle.effect_prover.specs.Table.{Table, row_at, address_at, instr_of, IsLeastTable}
use Rattle.effect_prover.specs.Inside.{IsInside, IsInsideAt, AreInside, IsOutsideAt}

-- each instruction that the task's least table reaches is inside
pub record IsProvenTask (P : ProgramParts) (d : TaskDecl) : Type 0 where
  pub table : Table
  pub least : IsLeastTable P d table
  pub inside : AreInside P d table

-- the result for a task: it is proven, or this is the index of the first word of its least table that isn't inside
pub record IsUnprovenTask (P : ProgramParts) (d : TaskDecl) (place : ℕ) : Type 0 where
  pub table : Table
  pub least : IsLeastTable P d table
  pub outside : IsOutsideAt P d table place
  pub before : (i : ℕ) → i < place → IsInsideAt P d table i

abbrev pub IsTaskAnswer : ProgramParts → TaskDecl → Option ℕ → Type 0
IsTaskAnswer P d None = IsProvenTask P d
IsTaskAnswer P d (Some place) = IsUnprovenTask P d place

-- the same for the tasks of a phase: the first that isn't proven, by its core
pub record IsUnprovenPhase (P : ProgramParts) (tasks : List TaskDecl) (core place : ℕ) : Type 0 where
  pub number : ℕ
  pub decl : TaskDecl
  pub there : slice_get tasks number ≡ Some decl
  pub own : decl.core.0 ≡ core
  pub unproven : IsUnprovenTask P decl place
  pub before : (k : ℕ) (d : TaskDecl) → k < number → slice_get tasks k ≡ Some d → IsProvenTask P d

abbrev pub IsPhaseAnswer : ProgramParts → List TaskDecl → Option Found → Type 0
IsPhaseAnswer P tasks None = All (IsProvenTask P) tasks
IsPhaseAnswer P tasks (Some found) = IsUnprovenPhase P tasks found.core.0 found.place

-- all tasks of the program are proven
abbrev pub IsProven : ProgramParts → Type 0
IsProven P = All (λ (p : Phase). All (IsProvenTask P) p.tasks) P.phases

-- the least table of the core's task in the phase reaches an instruction at pc that isn't inside
pub record IsUnbounded (P : ProgramParts) (phase core pc : ℕ) : Type 0 where
  pub decl : TaskDecl
  pub task : declared P phase core ≡ Some decl
  pub table : Table
  pub least : IsLeastTable P decl table
  pub place : ℕ
  pub address : pc ≡ address_at place
  pub row : Row
  pub reached : row_at table place ≡ Some row
  pub instr : Instr
  pub there : instr_of P.code place ≡ Some instr
  pub outside : IsInside P decl row instr → ⊥

-- the answer is right: all tasks are proven, or this is the least phase, core and pc whose instruction isn't inside
abbrev pub IsProversAnswer : ProgramParts → Proved → Type 0
IsProversAnswer P Inside = IsProven P
IsProversAnswer P (Unbounded phase core pc) = IsFirst (IsUnbounded P) phase.0 core.0 pc

-- the task hasn't ended by the trap `outside`
abbrev pub IsTame : Option End → Type 0
IsTame (Some (Trap kind.TheVariants.Outside pc value)) = ⊥
IsTame _ = Unit {0}

-- for all fuel and grants, no task has ended by the trap `outside`
abbrev pub RunsInside : ProgramParts → Type 0
RunsInside P =
    (fuel : ℕ) (gs : List Grant) (F : Flat) → so_far P fuel gs ≡ Some F → All (λ (r : Started). IsTame r.state.end) (all_tasks F)

-- the answer's line
unfoldable pub proved_text : Proved → List ℕ
proved_text Inside = codes "proved inside" ++ newline
proved_text (Unbounded phase core pc) =
    codes "unbounded " ++ decimal phase.0 ++ space ++ decimal core.0 ++ space ++ hexadecimal pc ++ newline
