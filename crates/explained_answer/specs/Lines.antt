-- What is said after each line of an answer, and which lines an answer of a program may have.
use Rattle.std.specs.Prelude.{◌≡◌, ◌⊎◌, ℕ, ◌+◌, ◌<◌, ◌≤◌, Bool, true, false, ◌&&◌, ◌==◌, nat_lt, List, [], ◌++◌, codes, length, take, drop, find, map, flat_map, Option, Some, None}
use Rattle.std.specs.Fmt.{decimal}
use Rattle.region_table.specs.Program.{ProgramParts, tasks_of}
use Rattle.std.specs.List.{All, slice_range}
use Rattle.std.specs.Option.{is_some}
use Rattle.text_pieces.specs.Pieces.{newline}
use Rattle.text_pieces.specs.Field.{Stands, NoneStands}
use Rattle.text_places.specs.declared.places.Located.{Located}
use Rattle.text_places.specs.declared.places.CodePlace.{CodePlace}
use Rattle.text_places.specs.declared.places.TaskPlace.{TaskPlace}
use Rattle.text_places.specs.declared.places.Places.{Places}
use Rattle.text_places.specs.Words.{is_task_of}
use Rattle.text_places.specs.Texts.{lock_text, word_text}
use Rattle.sentences.specs.Endings.{code_place_at, indent, ending_text, place_behind}
use Rattle.explained_answer.specs.declared.line.AnswerLine as line
use Rattle.explained_answer.specs.declared.line.AnswerLine.{AnswerLine}
use Rattle.explained_answer.specs.declared.line.Count as count
use Rattle.explained_answer.specs.declared.line.Count.{Count}
use Rattle.explained_answer.specs.AnswerLines.{IsAnswerLine, answer_line}
use Rattle.rv_core.specs.declared.ending.TaskEnd.{TaskEnd}
use Rattle.explained_answer.specs.declared.parsing.ReadLine.{ReadLine}
use Rattle.explained_answer.specs.declared.several.OneAnswer.{OneAnswer}
use Rattle.explained_answer.specs.declared.parsing.ReadAnswer.{ReadAnswer}
use Rattle.explained_answer.specs.declared.parsing.ReadAnswer as read_answer
use Rattle.explained_answer.specs.Ended.{named_on, outcome_text, ended_holder_text}
use Rattle.sentences.specs.declared.endings.Standstill.{Standstill}
use Rattle.explained_answer.specs.declared.run_again.AgainRun.{AgainRun}
use Rattle.explained_answer.specs.Reasons.{said_of_reason}
use Rattle.explained_answer.specs.RunAgain.{answer_again, standstill_on}
use Rattle.explained_answer.specs.Several.{answers_in}

-- ---- what is said

-- the name of a data word, and the name of a lock that was granted
unfoldable pub named_word : Located → ℕ → List ℕ
named_word l word = indent ++ word_text l.program.regions word ++ newline

unfoldable pub named_lock : Located → ℕ → List ℕ
named_lock l lock = indent ++ lock_text l.program.locks lock ++ newline

-- the line that declares a task, and the line and the bytes of an instruction of it
unfoldable pub which_line : List ℕ
which_line = codes " of the task that line "

unfoldable pub declared_there : ℕ → List ℕ
declared_there line = which_line ++ decimal line ++ codes " declares"

abbrev pub task_there : Option TaskPlace → List ℕ
task_there (Some t) = declared_there t.line
task_there None = []

unfoldable pub the_instruction : List ℕ
the_instruction = codes "  This is the instruction"

unfoldable pub at_its_place : List ℕ
at_its_place = codes " at "

abbrev pub instruction_there : List ℕ → Option TaskPlace → CodePlace → List ℕ
instruction_there text task p = the_instruction ++ task_there task ++ place_behind at_its_place text p

abbrev pub unproven_at : List ℕ → Option TaskPlace → Option CodePlace → List ℕ
unproven_at text task (Some p) = instruction_there text task p
unproven_at text task None = []

-- where the instruction stands that the prover names
abbrev pub unproven_text : List ℕ → Places → ℕ → ℕ → ℕ → List ℕ
unproven_text text places phase core pc = unproven_at text (find (is_task_of phase core) places.tasks) (code_place_at places pc)

-- a word that the order of grants may decide
unfoldable pub varying_word : Located → ℕ → List ℕ
varying_word l word = indent ++ word_text l.program.regions word ++ codes ": the order of grants may decide its value.\n"

unfoldable pub control_warning : List ℕ
control_warning = codes "  What it does may depend on the order of grants: a register that it reads holds what this order may decide. So the runs aren't followed further.\n"

-- where the instruction stands at which control is open
unfoldable pub control_text : List ℕ → Places → ℕ → ℕ → ℕ → List ℕ
control_text text places phase core pc = unproven_text text places phase core pc ++ control_warning

unfoldable pub the_task : List ℕ
the_task = codes "  The task"

unfoldable pub that_line : ℕ → List ℕ
that_line line = codes " that line " ++ decimal line ++ codes " declares"

abbrev pub declared_by : Option TaskPlace → List ℕ
declared_by (Some t) = that_line t.line
declared_by None = []

unfoldable pub while_it_holds : List ℕ
while_it_holds = codes " ends while it holds "

unfoldable pub held_warning : List ℕ
held_warning = codes ", and another task of the phase takes this lock. If that one comes later, it waits for ever.\n  Release the lock before the task ends.\n"

unfoldable pub stuck_warning : List ℕ
stuck_warning = codes ": in some order of grants tasks may hold locks and wait for each other's in a cycle, and this lock is on it.\n  Let all tasks of the phase take their locks in one order.\n"

-- the task that ends with a lock, and what follows
unfoldable pub held_text : Located → ℕ → ℕ → ℕ → List ℕ
held_text l phase core lock =
    the_task ++ declared_by (find (is_task_of phase core) l.places.tasks) ++ while_it_holds ++ lock_text l.program.locks lock ++ held_warning

-- the lock that is on a cycle, and what follows
unfoldable pub stuck_text : Located → ℕ → List ℕ
stuck_text l lock =
    indent ++ lock_text l.program.locks lock ++ stuck_warning

-- what is said after a line: for a task that didn't finish, why; for an instruction, where it stands; otherwise the names of
-- words and locks. `still` has what is known of the line's task, if it waits or is out of fuel; `named` is the cause of an outcome, or
-- the task that holds the lock for which the line's task waits, if it ended
abbrev pub sentences_behind : List ℕ → Located → Standstill → Option TaskEnd → AnswerLine → List ℕ
sentences_behind text l still named (line.TheVariants.Outcome o) = outcome_text l.places o named
sentences_behind text l still named (line.TheVariants.Task t) = ending_text text l still t ++ ended_holder_text l.places named
sentences_behind text l still named (line.TheVariants.Word word value) = named_word l word
sentences_behind text l still named (line.TheVariants.Grant g) = named_lock l g.lock.0
sentences_behind text l still named (line.TheVariants.Unbounded phase core at) = unproven_text text l.places phase core at
sentences_behind text l still named (line.TheVariants.Count c number) = []
sentences_behind text l still named (line.TheVariants.Sum value) = []
sentences_behind text l still named (line.TheVariants.Time ticks) = []
sentences_behind text l still named (line.TheVariants.Network ticks) = []
sentences_behind text l still named (line.TheVariants.Link k) = []
sentences_behind text l still named (line.TheVariants.Checked phases tasks words) = []
sentences_behind text l still named (line.TheVariants.Varies word) = varying_word l word
sentences_behind text l still named (line.TheVariants.OpenControl phase core at) = control_text text l.places phase core at
sentences_behind text l still named (line.TheVariants.OpenHeld phase core lock) = held_text l phase core lock
sentences_behind text l still named (line.TheVariants.OpenStuck phase lock) = stuck_text l lock
sentences_behind text l still named (line.TheVariants.Fixed f) = []

-- a line of an answer that has these lines, and of which this is known besides, and what is said after it
abbrev pub explained_line : List ℕ → Located → AgainRun → List AnswerLine → AnswerLine → List ℕ
explained_line text l again lines x =
    answer_line x ++ sentences_behind text l (standstill_on again lines x) (named_on lines x) x ++ said_of_reason text l again.why x

-- the lines of one answer, each with what is said after it. `again` is the program that is run once more for where the answer's tasks
-- stand; without one, that isn't said
abbrev pub answer_and_sentences : List ℕ → Located → Option ProgramParts → List AnswerLine → List ℕ
answer_and_sentences text l again lines = flat_map (explained_line text l (answer_again again lines) lines) lines

-- answers one after the other. A run may be long, so where tasks stand is said of the first answers only
abbrev pub answers_run_again : ℕ
answers_run_again = 16

abbrev pub answers_and_sentences : List ℕ → Located → List (List AnswerLine) → List ℕ
answers_and_sentences text l answers =
    flat_map (answer_and_sentences text l (Some l.program)) (take answers_run_again answers)
    ++ flat_map (answer_and_sentences text l None) (drop answers_run_again answers)

-- the answers that some lines are, one after the other
abbrev pub lines_and_sentences : List ℕ → Located → List AnswerLine → List ℕ
lines_and_sentences text l lines = answers_and_sentences text l (answers_in lines)

-- ---- which lines an answer may have

-- whether the text has a task for the core in the phase
abbrev pub has_task : Located → ℕ → ℕ → Bool
has_task l phase core = is_some (find (is_task_of phase core) l.places.tasks)

abbrev pub has_named_lock : Located → ℕ → Bool
has_named_lock l lock = nat_lt lock (length l.program.locks)

abbrev pub count_is_of : Located → Count → ℕ → Bool
count_is_of l count.TheVariants.Words number = number == length l.program.memory
count_is_of l _ number = true

-- whether the program has these numbers of phases, tasks and data words
abbrev pub is_size_of : ProgramParts → ℕ → ℕ → ℕ → Bool
is_size_of p phases tasks words = phases == length p.phases && (length (tasks_of p.phases) == tasks && words == length p.memory)

-- whether an answer of the text's program may have the line
abbrev pub fits_program : Located → AnswerLine → Bool
fits_program l (line.TheVariants.Outcome o) = true
fits_program l (line.TheVariants.Task t) = has_task l t.phase.0 t.core.0
fits_program l (line.TheVariants.Word word value) = nat_lt word (length l.program.memory)
fits_program l (line.TheVariants.Grant g) = has_task l g.phase.0 g.core.0 && has_named_lock l g.lock.0
fits_program l (line.TheVariants.Count c number) = count_is_of l c number
fits_program l (line.TheVariants.Checked phases tasks words) = is_size_of l.program phases tasks words
fits_program l (line.TheVariants.Unbounded phase core pc) = has_task l phase core && is_some (code_place_at l.places pc)
fits_program l (line.TheVariants.Varies word) = nat_lt word (length l.program.memory)
fits_program l (line.TheVariants.OpenControl phase core pc) = has_task l phase core && is_some (code_place_at l.places pc)
fits_program l (line.TheVariants.OpenHeld phase core lock) = has_task l phase core && has_named_lock l lock
fits_program l (line.TheVariants.OpenStuck phase lock) = nat_lt phase (length l.program.phases) && has_named_lock l lock
fits_program l _ = true

pub record IsLineOf (l : Located) (x : AnswerLine) : Type 0 where
  pub fits : IsAnswerLine x
  pub of : fits_program l x ≡ true

-- the bytes begin with a line of an answer, but not with one of this program's
pub record StandsOther (l : Located) (bytes : List ℕ) : Type 0 where
  pub line : AnswerLine
  pub rest : List ℕ
  pub stands : Stands IsAnswerLine answer_line bytes line rest
  pub other : fits_program l line ≡ false

-- the bytes begin with no line of an answer of this program
abbrev pub NoLineOf : Located → List ℕ → Type 0
NoLineOf l bytes = NoneStands IsAnswerLine answer_line bytes ⊎ StandsOther l bytes

-- the bytes are these lines of an answer of this program, and then these bytes
pub record AreLinesBefore (l : Located) (bytes : List ℕ) (lines : List AnswerLine) (behind : List ℕ) : Type 0 where
  pub are : All (IsLineOf l) lines
  pub parts : bytes ≡ flat_map answer_line lines ++ behind

-- the line of this number, from 1, is the first that can't be a line of an answer of this program
pub record IsRefusedAt (l : Located) (bytes : List ℕ) (number : ℕ) : Type 0 where
  pub lines : List AnswerLine
  pub rest : List ℕ
  pub before : AreLinesBefore l bytes lines rest
  pub next : number ≡ length lines + 1
  pub some : 0 < length rest
  pub none : NoLineOf l rest

-- all lines are lines of an answer of this program, and were explained
pub record AreAllLinesExplained (text : List ℕ) (l : Located) (bytes out : List ℕ) : Type 0 where
  pub lines : List AnswerLine
  pub all : AreLinesBefore l bytes lines []
  pub said : out ≡ lines_and_sentences text l lines

-- ---- an answer, read

abbrev pub line_read : ReadLine → AnswerLine
line_read r = r.line

abbrev pub lines_in : List ReadLine → List AnswerLine
lines_in read = map line_read read

-- what the lines of one of several answers say, and that they are among the lines that were read
abbrev pub lines_of_one : List ReadLine → OneAnswer → List AnswerLine
lines_of_one read a = lines_in (slice_range read a.start a.end)

abbrev pub HasLinesWithin : List ReadLine → OneAnswer → Type 0
HasLinesWithin read a = (a.start ≤ a.end) × (a.end ≤ length read)

-- the bytes of a line are those that say it
abbrev pub IsWritten : ReadLine → Type 0
IsWritten r = r.written.now ≡ answer_line r.line

pub record AreLinesRead (l : Located) (bytes : List ℕ) (read : List ReadLine) (behind : List ℕ) : Type 0 where
  pub before : AreLinesBefore l bytes (lines_in read) behind
  pub written : All IsWritten read

abbrev pub IsAnswerRead : Located → List ℕ → ReadAnswer → Type 0
IsAnswerRead l bytes (read_answer.TheVariants.Lines read) = AreLinesRead l bytes read.items []
IsAnswerRead l bytes (read_answer.TheVariants.Refused number) = IsRefusedAt l bytes number
