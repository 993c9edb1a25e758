-- Where two lists first differ, and when loads and tasks count as equal.
use Rattle.std.specs.Prelude.{ℕ, suc, ◌==◌, Bool, ◌&&◌, if◌then◌else◌, List, [], ◌∷◌, Option, Some, None, option_map}
use Rattle.dn_base.specs.declared.ids.LoadSeen.{LoadSeen}
use Rattle.flat_machine.specs.declared.ending.TaskLoads.{TaskLoads}

-- the first index, from 0, at which two lists differ; None if they don't differ
abbrev pub first_difference : {A : Type 0} → (A → A → Bool) → List A → List A → Option ℕ
first_difference same [] [] = None
first_difference same [] (y ∷ ys) = Some 0
first_difference same (x ∷ xs) [] = Some 0
first_difference same (x ∷ xs) (y ∷ ys) = if same x y then option_map suc (first_difference same xs ys) else Some 0

-- two loads are of the same word, with the same value
abbrev pub is_same_load : LoadSeen → LoadSeen → Bool
is_same_load s t = (s.word.0 == t.word.0) && (s.value == t.value)

-- two rows of loads are of the same task: of the same phase and core
abbrev pub is_same_task : TaskLoads → TaskLoads → Bool
is_same_task s t = (s.phase.0 == t.phase.0) && (s.core.0 == t.core.0)
