-- The tasks that one line declares. An effect that stands behind the line is one of each of them.
use Rattle.std.specs.Prelude.{ℕ, ◌==◌, Bool, nat_lt, List, count_by, find, Option, Some, None, if◌then◌else◌}
use Rattle.text_places.specs.declared.places.Places.{Places}
use Rattle.text_places.specs.declared.places.TaskPlace.{TaskPlace}
use Rattle.text_places.specs.Words.{is_task_of}
use Rattle.sentences.specs.declared.families.TaskFamily.{TaskFamily}

abbrev pub is_of_line : ℕ → TaskPlace → Bool
is_of_line line t = t.line == line

-- how many tasks a line declares
abbrev pub family_size : List TaskPlace → ℕ → ℕ
family_size tasks line = count_by (is_of_line line) tasks

abbrev pub family_if : ℕ → ℕ → Option TaskFamily
family_if line count = if nat_lt 1 count then Some (record { line = line; tasks = count }) else None

abbrev pub family_at : List TaskPlace → Option TaskPlace → Option TaskFamily
family_at tasks None = None
family_at tasks (Some t) = family_if t.line (family_size tasks t.line)

-- the tasks among which the task of this core in this phase is declared, if its line declares several
abbrev pub family_of : Places → ℕ → ℕ → Option TaskFamily
family_of places phase core = family_at places.tasks (find (is_task_of phase core) places.tasks)
