-- The sentences on a conflict: which tasks conflict on which word, where they stand in the text, and how to fix it. Each line
-- is indented, which tells it from the lines of an answer.
use Rattle.std.specs.Prelude.{ℕ, ◌-◌, ◌==◌, List, [], ◌++◌, length, take, flat_map, Option, Some, None, codes, find, if◌then◌else◌}
use Rattle.std.specs.Fmt.{decimal}
use Rattle.text_pieces.specs.Pieces.{newline}
use Rattle.effect_checker.specs.declared.fault.CheckFault.{CheckFault}
use Rattle.effect_checker.specs.declared.fault.CheckFault as conflict
use Rattle.text_places.specs.declared.places.TaskPlace.{TaskPlace}
use Rattle.text_places.specs.declared.places.Located.{Located}
use Rattle.text_places.specs.declared.places.Places.{Places}
use Rattle.text_places.specs.Words.{is_task_of}
use Rattle.text_places.specs.Texts.{word_text, lock_text, quoted_line}
use Rattle.sentences.specs.declared.claims.Contender.{Contender}
use Rattle.sentences.specs.declared.claims.Way.TheVariants.{Stores, Plainly, Under}
use Rattle.sentences.specs.Claims.{claims_in, contender_at}
use Rattle.sentences.specs.Guards.{guarded_in}

-- ---- tasks and locks

-- the line that declares a task
unfoldable pub declaring_line : TaskPlace → List ℕ
declaring_line p = codes " (line " ++ decimal p.line ++ codes ")"

abbrev pub declaring_text : Option TaskPlace → List ℕ
declaring_text (Some p) = declaring_line p
declaring_text None = []

-- a task by its core, and the line that declares it
unfoldable pub core_text : Places → ℕ → ℕ → List ℕ
core_text places phase core =
    codes "core " ++ decimal core ++ codes "'s task" ++ declaring_text (find (is_task_of phase core) places.tasks)

abbrev pub guarded_task_text : Places → ℕ → Option ℕ → List ℕ
guarded_task_text places phase (Some core) = core_text places phase core
guarded_task_text places phase None = codes "some task"

-- the phase of a conflict
unfoldable pub phase_text : ℕ → List ℕ
phase_text phase = codes "  In phase " ++ decimal phase ++ codes ", "

-- ---- what is wrong, and how it is fixed

unfoldable pub stores_plainly : List ℕ
stores_plainly = codes " may store to "

unfoldable pub and_another : List ℕ
and_another = codes " without a lock, and "

unfoldable pub uses_it_too : List ℕ
uses_it_too = codes " may load it or store to it without one." ++ newline

unfoldable pub apart_remedy : List ℕ
apart_remedy = codes "  Give the tasks words or phases of their own, or have one lock guard the word for both by `.greads` and `.gwrites`." ++ newline

unfoldable pub plain_text : Located → ℕ → ℕ → ℕ → ℕ → List ℕ
plain_text l phase a b w =
    phase_text phase ++ core_text l.places phase a ++ stores_plainly ++ word_text l.program.regions w ++ and_another
    ++ core_text l.places phase b ++ uses_it_too

unfoldable pub for_task : List ℕ
for_task = codes " for "

unfoldable pub guards_it : List ℕ
guards_it = codes " guards "

-- a lock guards a word for a task
unfoldable pub guard_text : Located → ℕ → ℕ → ℕ → List ℕ
guard_text l phase lock w =
    lock_text l.program.locks lock ++ guards_it ++ word_text l.program.regions w ++ for_task
    ++ guarded_task_text l.places phase (guarded_in l.program phase lock w)

unfoldable pub uses_it_plainly : List ℕ
uses_it_plainly = codes " may load it or store to it without a lock." ++ newline

unfoldable pub guard_remedy : List ℕ
guard_remedy = codes "  Have the lock guard the word for that task too, and take it out of the task's `.reads` and `.writes`." ++ newline

unfoldable pub guarded_plain_text : Located → ℕ → ℕ → ℕ → ℕ → List ℕ
guarded_plain_text l phase lock core w =
    phase_text phase ++ guard_text l phase lock w ++ codes ", and " ++ core_text l.places phase core
    ++ uses_it_plainly

unfoldable pub one_lock_remedy : List ℕ
one_lock_remedy = codes "  Have one lock guard the word for all tasks of the phase." ++ newline

unfoldable pub two_locks_text : Located → ℕ → ℕ → ℕ → ℕ → List ℕ
two_locks_text l phase a b w =
    phase_text phase ++ guard_text l phase a w ++ codes ", and " ++ guard_text l phase b w ++ codes "." ++ newline

-- what is wrong
abbrev pub contenders_text : Located → CheckFault → List ℕ
contenders_text l (conflict.TheVariants.PlainConflict phase a b w) = plain_text l phase.0 a.0 b.0 w.0
contenders_text l (conflict.TheVariants.GuardedPlain phase lock core w) = guarded_plain_text l phase.0 lock.0 core.0 w.0
contenders_text l (conflict.TheVariants.TwoLocks phase a b w) = two_locks_text l phase.0 a.0 b.0 w.0

-- how to fix it
abbrev pub conflict_remedy : CheckFault → List ℕ
conflict_remedy (conflict.TheVariants.PlainConflict phase a b w) = apart_remedy
conflict_remedy (conflict.TheVariants.GuardedPlain phase lock core w) = guard_remedy
conflict_remedy (conflict.TheVariants.TwoLocks phase a b w) = one_lock_remedy

-- ---- the effects that claim the word

-- the task of a core
abbrev pub contending_task : Located → ℕ → ℕ → Option TaskPlace
contending_task l phase core = find (is_task_of phase core) l.places.tasks

abbrev pub task_on : Places → ℕ → Option ℕ → Option TaskPlace
task_on places phase None = None
task_on places phase (Some core) = find (is_task_of phase core) places.tasks

-- the task that a conflict names first, or for which the lock that it names first guards the word
abbrev pub first_contender : Located → CheckFault → Option Contender
first_contender l (conflict.TheVariants.PlainConflict phase a b w) = contender_at l.program.regions w.0 (contending_task l phase.0 a.0) Stores
first_contender l (conflict.TheVariants.GuardedPlain phase lock core w) =
    contender_at l.program.regions w.0 (task_on l.places phase.0 (guarded_in l.program phase.0 lock.0 w.0)) (Under lock.0)
first_contender l (conflict.TheVariants.TwoLocks phase a b w) =
    contender_at l.program.regions w.0 (task_on l.places phase.0 (guarded_in l.program phase.0 a.0 w.0)) (Under a.0)

-- the other task
abbrev pub second_contender : Located → CheckFault → Option Contender
second_contender l (conflict.TheVariants.PlainConflict phase a b w) = contender_at l.program.regions w.0 (contending_task l phase.0 b.0) Plainly
second_contender l (conflict.TheVariants.GuardedPlain phase lock core w) = contender_at l.program.regions w.0 (contending_task l phase.0 core.0) Plainly
second_contender l (conflict.TheVariants.TwoLocks phase a b w) =
    contender_at l.program.regions w.0 (task_on l.places phase.0 (guarded_in l.program phase.0 b.0 w.0)) (Under b.0)

unfoldable pub claimed_by : ℕ → List ℕ
claimed_by core = codes "  Core " ++ decimal core ++ codes "'s task uses it by:" ++ newline

unfoldable pub claiming_line : List ℕ → ℕ → List ℕ
claiming_line text line = codes "  " ++ quoted_line text line

unfoldable pub more_claims : ℕ → List ℕ
more_claims n = if n == 0 then [] else codes "  and " ++ decimal n ++ codes " more" ++ newline

-- the first three of the lines, and how many more there are
unfoldable pub some_claims : List ℕ → ℕ → List ℕ → List ℕ
some_claims text core lines = claimed_by core ++ flat_map (claiming_line text) (take 3 lines) ++ more_claims (length lines - 3)

abbrev pub claims_text : List ℕ → ℕ → List ℕ → List ℕ
claims_text text core lines = if length lines == 0 then [] else some_claims text core lines

abbrev pub contender_core : Option TaskPlace → ℕ
contender_core None = 0
contender_core (Some t) = t.core

abbrev pub contender_text : List ℕ → Located → Option Contender → List ℕ
contender_text text l None = []
contender_text text l (Some c) = claims_text text (contender_core c.task) (claims_in text l.program c)

-- what is said of a conflict
abbrev pub conflict_sentences : List ℕ → Located → CheckFault → List ℕ
conflict_sentences text l c = contenders_text l c ++ (contender_text text l (first_contender l c) ++ contender_text text l (second_contender l c)) ++ conflict_remedy c
