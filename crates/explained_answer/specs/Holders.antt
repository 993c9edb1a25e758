-- Which task holds a lock at the end of a run, by the grants in its answer.
use Rattle.std.specs.Prelude.{◌≡◌, ℕ, Bool, ◌==◌, List, [], ◌∷◌, reverse, flat_map, find, slice_index_or, slice_set, Option, Some, None, if◌then◌else◌}
use Rattle.dn_base.specs.declared.ids.Grant.{Grant}
use Rattle.rv_core.specs.declared.ending.EndShown as shown
use Rattle.rv_core.specs.declared.ending.EndShown.{EndShown}
use Rattle.explained_answer.specs.declared.line.AnswerLine as line
use Rattle.explained_answer.specs.declared.line.AnswerLine.{AnswerLine}

-- the grants in an answer, in order
abbrev pub grant_on : AnswerLine → List Grant
grant_on (line.TheVariants.Grant g) = g ∷ []
grant_on _ = []

abbrev pub answer_grants : List AnswerLine → List Grant
answer_grants lines = flat_map grant_on lines

-- the last grant of a lock
abbrev pub is_of_lock : ℕ → Grant → Bool
is_of_lock lock g = g.lock.0 == lock

abbrev pub last_grant : List Grant → ℕ → Option Grant
last_grant grants lock = find (is_of_lock lock) (reverse grants)

-- the core of a grant, if the grant is in the phase
abbrev pub core_if_in : ℕ → Option Grant → Option ℕ
core_if_in phase (Some g) = if g.phase.0 == phase then Some g.core.0 else None
core_if_in phase None = None

-- the core that holds a lock at the end of a phase, if another task waits for the lock: the core to which it was granted last
abbrev pub holder_of : List Grant → ℕ → ℕ → Option ℕ
holder_of grants phase lock = core_if_in phase (last_grant grants lock)

-- the core that holds the lock for which a task waits; None for a task that doesn't wait
abbrev pub awaited_holder : List Grant → ℕ → EndShown → Option ℕ
awaited_holder grants phase (shown.TheVariants.Waits lock) = holder_of grants phase lock.0
awaited_holder grants phase _ = None

-- the core that holds the lock for which the task of a line waits
abbrev pub holder_on : List Grant → AnswerLine → Option ℕ
holder_on grants (line.TheVariants.Task t) = awaited_holder grants t.phase.0 t.end
holder_on grants _ = None

-- a table has the last grant of each lock
abbrev pub AreLastGrants : List Grant → List (Option Grant) → Type 0
AreLastGrants grants table = (lock : ℕ) → slice_index_or table lock None ≡ last_grant grants lock

-- a table with the grant of one more line
abbrev pub with_last_grant : List (Option Grant) → AnswerLine → List (Option Grant)
with_last_grant table (line.TheVariants.Grant g) = slice_set table g.lock.0 (Some g)
with_last_grant table _ = table
