-- The line that says that an event may come, or why it may not.
use Rattle.std.specs.Prelude.{ℕ, List, [], ◌++◌, codes, Option, Some, None}
use Rattle.text_pieces.specs.Pieces.{newline, space}
use Rattle.region_table.specs.Program.{ProgramParts}
use Rattle.message_net.specs.declared.event.Event.{Event}
use Rattle.message_net.specs.declared.event.Event.TheVariants.{Instr, Evict, Arrive, Handle}
use Rattle.text_places.specs.Texts.{lock_text}
use Rattle.state_text.specs.declared.reason.Reason.{Reason}
use Rattle.state_text.specs.declared.reason.Reason as reason
use Rattle.state_text.specs.Called.{data_word_text, numbered_core, numbered_mail}

-- what a reason says of the core or mail of an event: the words before the data words or the lock that it names, these, and the
-- words after them
unfoldable pub reason_before : Reason → List ℕ
reason_before reason.TheVariants.NoCore = codes "isn't there"
reason_before reason.TheVariants.Halted = codes "is halted"
reason_before reason.TheVariants.Arrived = codes "has arrived"
reason_before reason.TheVariants.NoTask = codes "has no task"
reason_before reason.TheVariants.TaskEnded = codes "has a task that has ended"
reason_before reason.TheVariants.TaskRuns = codes "has a task that goes on"
reason_before (reason.TheVariants.WaitsForWord word) = codes "waits for "
reason_before (reason.TheVariants.WaitsForLock lock) = codes "waits for "
reason_before (reason.TheVariants.HasValue word) = codes "has the value of "
reason_before (reason.TheVariants.IsLeaving word) = codes "has "
reason_before (reason.TheVariants.IsPending word) = codes "has "
reason_before (reason.TheVariants.NoEntry word) = codes "has no entry of "
reason_before (reason.TheVariants.NoRoom word) = codes "has no room for "
reason_before reason.TheVariants.HasPending = codes "has pending entries"
reason_before reason.TheVariants.NeedsNoRoom = codes "needs no room"
reason_before (reason.TheVariants.OtherSet word wanted) = codes "needs room for "
reason_before reason.TheVariants.NoMail = codes "isn't in flight"

unfoldable pub another_set : List ℕ
another_set = codes ", which is of another set than "

unfoldable pub two_words_text : ProgramParts → ℕ → ℕ → List ℕ
two_words_text P wanted w = data_word_text P wanted ++ another_set ++ data_word_text P w

abbrev pub reason_names : ProgramParts → Reason → List ℕ
reason_names P (reason.TheVariants.WaitsForWord word) = data_word_text P word.0
reason_names P (reason.TheVariants.WaitsForLock lock) = lock_text P.locks lock.0
reason_names P (reason.TheVariants.HasValue word) = data_word_text P word.0
reason_names P (reason.TheVariants.IsLeaving word) = data_word_text P word.0
reason_names P (reason.TheVariants.IsPending word) = data_word_text P word.0
reason_names P (reason.TheVariants.NoEntry word) = data_word_text P word.0
reason_names P (reason.TheVariants.NoRoom word) = data_word_text P word.0
reason_names P (reason.TheVariants.OtherSet word wanted) = two_words_text P wanted.0 word.0
reason_names P _ = []

unfoldable pub reason_behind : Reason → List ℕ
reason_behind (reason.TheVariants.HasValue word) = codes ", and its instruction comes first"
reason_behind (reason.TheVariants.IsLeaving word) = codes " leaving"
reason_behind (reason.TheVariants.IsPending word) = codes " pending"
reason_behind _ = []

unfoldable pub reason_text : ProgramParts → Reason → List ℕ
reason_text P r = reason_before r ++ reason_names P r ++ reason_behind r

-- whose event it is
unfoldable pub subject_text : Event → List ℕ
subject_text (Instr core) = numbered_core core.0
subject_text (Evict core word) = numbered_core core.0
subject_text (Arrive core) = numbered_core core.0
subject_text (Handle id) = numbered_mail id

unfoldable pub may_line : List ℕ
may_line = codes "may come" ++ newline

unfoldable pub may_not_line : ProgramParts → Event → Reason → List ℕ
may_not_line P e r = codes "may not come: " ++ subject_text e ++ space ++ reason_text P r ++ newline

abbrev pub whether_line : ProgramParts → Event → Option Reason → List ℕ
whether_line P e None = may_line
whether_line P e (Some r) = may_not_line P e r
