-- What holds of the task that is called the cause of an answer, and of the holder of a lock that is said to have ended.
use Rattle.std.specs.Prelude.{◌≡◌, true, false, ◌||◌, List, Some}
use Rattle.std.specs.List.{IsAmong}
use Rattle.dn_base.specs.declared.ids.LockId.{LockId}
use Rattle.rv_core.specs.declared.ending.EndShown.TheVariants.{Waits}
use Rattle.rv_core.specs.declared.ending.TaskEnd.{TaskEnd}
use Rattle.rv_core.specs.Ending.{is_waiting, is_trapped, is_spent}
use Rattle.explained_answer.specs.declared.line.AnswerLine as line
use Rattle.explained_answer.specs.declared.line.AnswerLine.{AnswerLine}
use Rattle.explained_answer.specs.Holders.{answer_grants, holder_of}

-- the task `waiting` waits for a lock; by the grants of the answer the core of `ended` holds it, and a line of the answer says of
-- the task of this core in the same phase that it ended
pub record IsEndedHolder (lines : List AnswerLine) (waiting ended : TaskEnd) : Type 0 where
  pub lock : LockId
  pub waits : waiting.end ≡ Waits lock
  pub holds : holder_of (answer_grants lines) waiting.phase.0 lock.0 ≡ Some ended.core.0
  pub phase : ended.phase.0 ≡ waiting.phase.0
  pub among : IsAmong lines (line.TheVariants.Task ended)
  pub has_ended : is_waiting ended.end ≡ false

-- it is the holder of a lock for which a task of the answer waits, and its line says that it trapped or ran out of fuel
pub record IsStuckBy (lines : List AnswerLine) (cause : TaskEnd) : Type 0 where
  pub waiting : TaskEnd
  pub among : IsAmong lines (line.TheVariants.Task waiting)
  pub holder : IsEndedHolder lines waiting cause
  pub cut_off : (is_trapped cause.end || is_spent cause.end) ≡ true

-- a line of the answer says that it trapped
pub record IsTrappedBy (lines : List AnswerLine) (cause : TaskEnd) : Type 0 where
  pub among : IsAmong lines (line.TheVariants.Task cause)
  pub trapped : is_trapped cause.end ≡ true
