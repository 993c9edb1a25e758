-- For which task of a phase a lock guards a data word.
use Rattle.std.specs.Prelude.{ℕ, List, [], ◌∷◌, Option, Some, None, slice_get, if◌then◌else◌}
use Rattle.std.specs.Option.{option_and_then}
use Rattle.region_table.specs.declared.declared.TaskDecl.{TaskDecl}
use Rattle.region_table.specs.declared.declared.Phase.{Phase}
use Rattle.region_table.specs.Program.{ProgramParts}
use Rattle.region_table.specs.Plan.{task_guards}

-- the core of the first of these tasks for which the lock guards the word
abbrev pub guarded_among : List TaskDecl → ℕ → ℕ → Option ℕ
guarded_among [] lock w = None
guarded_among (t ∷ ts) lock w = if task_guards t lock w then Some t.core.0 else guarded_among ts lock w

-- the core of the phase's first task for which the lock guards the word
abbrev pub guarded_in : ProgramParts → ℕ → ℕ → ℕ → Option ℕ
guarded_in p phase lock w = option_and_then (λ (q : Phase). guarded_among q.tasks lock w) (slice_get p.phases phase)
