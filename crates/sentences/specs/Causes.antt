-- Why an access isn't allowed, in the words of the rules of access: what the sentences on it are true of.
use Rattle.std.specs.Prelude.{◌≡◌, ◌≢◌, ℕ, true, false, List, [], slice_index_or}
use Rattle.std.specs.List.{IsAmong}
use Rattle.region_table.specs.declared.declared.TaskDecl.{TaskDecl}
use Rattle.region_table.specs.Plan.{uses_plainly, task_guards}
use Rattle.region_table.specs.Words.{has}
use Rattle.sentences.specs.declared.uses.Access.{Access}
use Rattle.sentences.specs.declared.uses.Access.TheVariants.{Load, Store}

-- no effect of the task has the word
pub record IsUndeclaredBy (t : TaskDecl) (w : ℕ) : Type 0 where
  pub plain : uses_plainly t w ≡ false
  pub guarded : (lock : ℕ) → task_guards t lock w ≡ false

-- a task of this core is among the tasks, and passes
pub record HasTask (tasks : List TaskDecl) (core : ℕ) (Passes : TaskDecl → Type 0) : Type 0 where
  pub task : TaskDecl
  pub among : IsAmong tasks task
  pub own : task.core.0 ≡ core
  pub passes : Passes task

-- no other task of the phase has the word in an effect with which a plain access of this kind conflicts: no lock guards it for
-- any task, and no task of another core stores to it plainly, nor, if the access is a store, loads it plainly
abbrev pub UsesPlainlySo : Access → TaskDecl → ℕ → Type 0
UsesPlainlySo Load t w = has t.effects.writes w ≡ true
UsesPlainlySo Store t w = uses_plainly t w ≡ true

pub record IsPlainlyFree (a : Access) (core : ℕ) (tasks : List TaskDecl) (w : ℕ) : Type 0 where
  pub unguarded : (t : TaskDecl) (lock : ℕ) → IsAmong tasks t → task_guards t lock w ≡ false
  pub apart : (t : TaskDecl) → IsAmong tasks t → t.core.0 ≢ core → UsesPlainlySo a t w → ⊥

-- no lock guards the word, and no task stores to it plainly: so it conflicts with nothing that some tasks load it plainly
pub record MayAllLoad (tasks : List TaskDecl) (w : ℕ) : Type 0 where
  pub unguarded : (t : TaskDecl) (lock : ℕ) → IsAmong tasks t → task_guards t lock w ≡ false
  pub unwritten : (t : TaskDecl) → IsAmong tasks t → has t.effects.writes w ≡ false

-- a task declares the word by the plain effect for such an access; or by the effect for it under a lock
abbrev pub DeclaresPlainly : Access → TaskDecl → ℕ → Type 0
DeclaresPlainly Load t w = has t.effects.reads w ≡ true
DeclaresPlainly Store t w = has t.effects.writes w ≡ true

abbrev pub DeclaresUnder : Access → ℕ → TaskDecl → ℕ → Type 0
DeclaresUnder Load lock t w = has (slice_index_or t.effects.guarded_reads lock []) w ≡ true
DeclaresUnder Store lock t w = has (slice_index_or t.effects.guarded_writes lock []) w ≡ true
