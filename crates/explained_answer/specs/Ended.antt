-- The tasks of an answer that ended, by the lines of its tasks: which of them is the cause where a run trapped or is stuck, and
-- which of them held a lock when they ended, so that it isn't given up.
use Rattle.std.specs.Prelude.{◌≡◌, ℕ, Bool, not, ◌&&◌, ◌||◌, ◌==◌, nat_lt, List, [], ◌∷◌, ◌++◌, codes, reverse, flat_map, find, slice_index_or, slice_set, Option, Some, None, if◌then◌else◌}
use Rattle.std.specs.Fmt.{decimal}
use Rattle.std.specs.Option.{option_or}
use Rattle.dn_base.specs.declared.ids.Grant.{Grant}
use Rattle.dn_base.specs.declared.status.Outcome.{Outcome}
use Rattle.dn_base.specs.declared.status.Outcome.TheVariants.{Trapped, Stuck}
use Rattle.rv_core.specs.declared.ending.EndShown as shown
use Rattle.rv_core.specs.declared.ending.EndShown.{EndShown}
use Rattle.rv_core.specs.declared.ending.TaskEnd.{TaskEnd}
use Rattle.rv_core.specs.Ending.{is_waiting, is_trapped, is_spent}
use Rattle.text_places.specs.declared.places.Places.{Places}
use Rattle.text_places.specs.declared.places.TaskPlace.{TaskPlace}
use Rattle.text_places.specs.Words.{is_task_of}
use Rattle.explained_answer.specs.declared.ended.LastLines.{LastLines}
use Rattle.explained_answer.specs.declared.line.AnswerLine as line
use Rattle.explained_answer.specs.declared.line.AnswerLine.{AnswerLine}
use Rattle.explained_answer.specs.Holders.{answer_grants, awaited_holder, AreLastGrants}

-- ---- the tasks of an answer

-- the tasks in an answer, in order
abbrev pub told_task : AnswerLine → List TaskEnd
told_task (line.TheVariants.Task t) = t ∷ []
told_task _ = []

abbrev pub answer_tasks : List AnswerLine → List TaskEnd
answer_tasks lines = flat_map told_task lines

-- the last task of a core; cores have numbers below 16
abbrev pub is_on_core : ℕ → TaskEnd → Bool
is_on_core core t = t.core.0 == core

abbrev pub last_of_core : List TaskEnd → ℕ → Option TaskEnd
last_of_core tasks core = if nat_lt core 16 then find (is_on_core core) (reverse tasks) else None

-- a table has the last task of each core
abbrev pub AreLastTasks : List TaskEnd → List (Option TaskEnd) → Type 0
AreLastTasks tasks table = (core : ℕ) → slice_index_or table core None ≡ last_of_core tasks core

-- a table with the task of one more line
abbrev pub with_last_task : List (Option TaskEnd) → AnswerLine → List (Option TaskEnd)
with_last_task table (line.TheVariants.Task t) = slice_set table t.core.0 (Some t)
with_last_task table _ = table

-- ---- a lock whose holder has ended

-- a task, if it is of this phase and ended
abbrev pub ended_in : ℕ → Option TaskEnd → Option TaskEnd
ended_in phase (Some t) = if t.phase.0 == phase && not (is_waiting t.end) then Some t else None
ended_in phase None = None

-- the task of this core in this phase, if the answer says that it ended
abbrev pub ended_task : List TaskEnd → ℕ → Option ℕ → Option TaskEnd
ended_task tasks phase (Some core) = ended_in phase (last_of_core tasks core)
ended_task tasks phase None = None

-- the task that holds the lock for which the task of a line waits, if the answer says that it ended
abbrev pub ended_holder : List Grant → List TaskEnd → AnswerLine → Option TaskEnd
ended_holder grants tasks (line.TheVariants.Task t) = ended_task tasks t.phase.0 (awaited_holder grants t.phase.0 t.end)
ended_holder grants tasks _ = None

-- ---- the cause

-- the task of a line, if it trapped
abbrev pub trapped_on : AnswerLine → Option TaskEnd
trapped_on (line.TheVariants.Task t) = if is_trapped t.end then Some t else None
trapped_on _ = None

-- a task, if it trapped or ran out of fuel
abbrev pub if_cut : Option TaskEnd → Option TaskEnd
if_cut (Some t) = if is_trapped t.end || is_spent t.end then Some t else None
if_cut None = None

-- the first task that lines give, each by itself
abbrev pub first_by : (AnswerLine → Option TaskEnd) → List AnswerLine → Option TaskEnd
first_by f [] = None
first_by f (x ∷ xs) = option_or (f x) (first_by f xs)

-- the task of a line that held the lock for which the line's task waits, and trapped or ran out of fuel
abbrev pub keeper_on : List Grant → List TaskEnd → AnswerLine → Option TaskEnd
keeper_on grants tasks x = if_cut (ended_holder grants tasks x)

-- the task that is called the cause of an answer with this outcome
abbrev pub cause_of : Outcome → List AnswerLine → Option TaskEnd
cause_of Trapped lines = first_by trapped_on lines
cause_of Stuck lines = first_by (keeper_on (answer_grants lines) (answer_tasks lines)) lines
cause_of _ lines = None

-- the last grant of each lock and the last task of each core in the lines of an answer
abbrev pub AreLastLines : List AnswerLine → LastLines → Type 0
AreLastLines lines last = AreLastGrants (answer_grants lines) last.grants.items × AreLastTasks (answer_tasks lines) last.tasks.items

-- the task that is named after a line: after an outcome the cause, after a task that waits the holder of its lock, if that ended
abbrev pub named_on : List AnswerLine → AnswerLine → Option TaskEnd
named_on lines (line.TheVariants.Outcome o) = cause_of o lines
named_on lines x = ended_holder (answer_grants lines) (answer_tasks lines) x

-- ---- what is said of it

unfoldable pub a_task : List ℕ
a_task = codes "  The task of core "

unfoldable pub at_line : List ℕ
at_line = codes ", which line "

unfoldable pub declares_it : List ℕ
declares_it = codes " declares,"

-- the line that declares a task
unfoldable pub declarer_line : ℕ → List ℕ
declarer_line line = at_line ++ decimal line ++ declares_it

abbrev pub declarer_text : Option TaskPlace → List ℕ
declarer_text (Some p) = declarer_line p.line
declarer_text None = []

abbrev pub ended_how : EndShown → List ℕ
ended_how shown.TheVariants.Finished = codes " finished"
ended_how shown.TheVariants.Fuel = codes " ran out of fuel"
ended_how (shown.TheVariants.Trap k pc value) = codes " trapped"
ended_how (shown.TheVariants.Waits lock) = codes " waits"

-- a task by its core and phase, the line that declares it, and how it ended
unfoldable pub ended_text : Places → TaskEnd → List ℕ
ended_text places t =
    a_task ++ decimal t.core.0 ++ codes " in phase " ++ decimal t.phase.0
    ++ declarer_text (find (is_task_of t.phase.0 t.core.0) places.tasks) ++ ended_how t.end

unfoldable pub is_cause : List ℕ
is_cause = codes ": that is the cause.\n"

unfoldable pub keeps_locks : List ℕ
keeps_locks = codes ": that is the cause. It keeps the locks that it holds.\n"

unfoldable pub kept_when_ended : List ℕ
kept_when_ended = codes " while it held this lock: fix that first.\n"

unfoldable pub stuck_text : List ℕ
stuck_text = codes "  If a task below trapped or is out of fuel, fix that first: it keeps the locks that it holds.\n"

abbrev pub cause_words : Outcome → List ℕ
cause_words Stuck = keeps_locks
cause_words _ = is_cause

abbrev pub no_cause_text : Outcome → List ℕ
no_cause_text Stuck = stuck_text
no_cause_text _ = []

-- what is said of the outcome: which task is the cause, or where tasks wait for locks, which is to be looked at first
abbrev pub outcome_text : Places → Outcome → Option TaskEnd → List ℕ
outcome_text places o (Some t) = ended_text places t ++ cause_words o
outcome_text places o None = no_cause_text o

-- what is said of the task that holds the lock for which another waits, if it ended
abbrev pub ended_holder_text : Places → Option TaskEnd → List ℕ
ended_holder_text places (Some t) = ended_text places t ++ kept_when_ended
ended_holder_text places None = []
