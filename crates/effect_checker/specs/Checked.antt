-- Which words the tasks of a phase use, and what it means that declared effects are checked.
use Rattle.std.specs.Prelude.{◌≡◌, ℕ, Bool, ◌&&◌, ◌==◌, IsTrue, List}
use Rattle.std.specs.List.{All, list_any}
use Rattle.region_table.specs.declared.declared.TaskDecl.{TaskDecl}
use Rattle.region_table.specs.declared.declared.Phase.{Phase}
use Rattle.region_table.specs.Words.{has}
use Rattle.region_table.specs.Program.{ProgramParts}
use Rattle.region_table.specs.Plan.{uses_plainly, phase_guards}

-- whether a task of the core passes a test of a word
abbrev pub on_core : (TaskDecl → ℕ → Bool) → List TaskDecl → ℕ → ℕ → Bool
on_core test tasks core w = list_any (λ (t : TaskDecl). (t.core.0 == core) && test t w) tasks

-- whether a task writes a word without a lock
abbrev pub writes_plainly : TaskDecl → ℕ → Bool
writes_plainly t w = has t.effects.writes w

-- whether the core's task writes the word without a lock
abbrev pub core_writes : List TaskDecl → ℕ → ℕ → Bool
core_writes tasks core w = on_core writes_plainly tasks core w

-- whether the core's task reads or writes the word without a lock
abbrev pub core_uses : List TaskDecl → ℕ → ℕ → Bool
core_uses tasks core w = on_core uses_plainly tasks core w

-- whether the lock guards the word for some of the tasks
abbrev pub lock_guards : List TaskDecl → ℕ → ℕ → Bool
lock_guards tasks lock w = phase_guards (record { tasks = tasks }) lock w

-- a phase whose tasks have no conflict: the three rules
pub record IsCheckedPhase (p : Phase) : Type 0 where
  -- a word that one core's task writes plainly is used plainly by no other core's task
  pub plain : (a b w : ℕ) → IsTrue (core_writes p.tasks a w) → IsTrue (core_uses p.tasks b w) → a ≡ b
  -- a word that a lock guards for some task is used plainly by no task
  pub guarded : (lock core w : ℕ) → IsTrue (lock_guards p.tasks lock w) → IsTrue (core_uses p.tasks core w) → ⊥
  -- a word is guarded by one lock at most
  pub one_lock : (a b w : ℕ) → IsTrue (lock_guards p.tasks a w) → IsTrue (lock_guards p.tasks b w) → a ≡ b

-- each phase of the program is checked
abbrev pub IsChecked : ProgramParts → Type 0
IsChecked program = All IsCheckedPhase program.phases
