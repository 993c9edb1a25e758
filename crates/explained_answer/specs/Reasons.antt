-- What is said of why an answer of outcomes is open, by the tasks of its phase alone: the register on which control depends, with the load
-- that its value comes from; or where a lock is acquired with which a task ends, or that is on a cycle.
use Rattle.std.specs.Prelude.{ℕ, Bool, true, false, ◌&&◌, ◌==◌, List, [], ◌++◌, codes, find, Option, Some, None, if◌then◌else◌}
use Rattle.std.specs.Fmt.{decimal}
use Rattle.std.specs.List.{list_any}
use Rattle.region_table.specs.Program.{ProgramParts}
use Rattle.common_outcomes.specs.declared.answer.Open.{Open}
use Rattle.common_outcomes.specs.declared.answer.Open.TheVariants.{Control, Held, Stuck}
use Rattle.outcomes_top.specs.declared.reasons.Dependence.{Dependence}
use Rattle.outcomes_top.specs.declared.reasons.Reason.{Reason}
use Rattle.outcomes_top.specs.declared.reasons.Taken.{Taken}
use Rattle.outcomes_top.specs.Reasons.{reason_of}
use Rattle.text_pieces.specs.Pieces.{newline}
use Rattle.text_places.specs.declared.places.CodePlace.{CodePlace}
use Rattle.text_places.specs.declared.places.Located.{Located}
use Rattle.text_places.specs.declared.places.TaskPlace.{TaskPlace}
use Rattle.text_places.specs.Texts.{lock_text, word_text}
use Rattle.text_places.specs.Words.{is_task_of}
use Rattle.sentences.specs.Endings.{code_place_at, place_behind, place_if}
use Rattle.explained_answer.specs.declared.line.AnswerLine as line
use Rattle.explained_answer.specs.declared.line.AnswerLine.{AnswerLine}

-- ---- of which line a reason speaks

-- a line by which an answer is open
abbrev pub is_open_line : AnswerLine → Bool
is_open_line (line.TheVariants.OpenControl phase core pc) = true
is_open_line (line.TheVariants.OpenHeld phase core lock) = true
is_open_line (line.TheVariants.OpenStuck phase lock) = true
is_open_line _ = false

abbrev pub is_control : ℕ → ℕ → ℕ → Open → Bool
is_control phase core pc (Control p c a) = phase == p.0 && (core == c.0 && pc == a)
is_control phase core pc _ = false

abbrev pub is_held_end : ℕ → ℕ → ℕ → Open → Bool
is_held_end phase core lock (Held p c k) = phase == p.0 && (core == c.0 && lock == k.0)
is_held_end phase core lock _ = false

abbrev pub is_stuck_so : ℕ → ℕ → Open → Bool
is_stuck_so phase lock (Stuck p k) = phase == p.0 && lock == k.0
is_stuck_so phase lock _ = false

-- whether the answer is open as the line says
abbrev pub is_open_so : AnswerLine → Open → Bool
is_open_so (line.TheVariants.OpenControl phase core pc) why = is_control phase core pc why
is_open_so (line.TheVariants.OpenHeld phase core lock) why = is_held_end phase core lock why
is_open_so (line.TheVariants.OpenStuck phase lock) why = is_stuck_so phase lock why
is_open_so _ why = false

abbrev pub reason_for : Option Reason → AnswerLine → Option Reason
reason_for None x = None
reason_for (Some r) x = if is_open_so x r.why then Some r else None

-- why the answer of the program with the greatest fuel is open; looked for if a line says that it is
abbrev pub reason_by_lines : ProgramParts → List AnswerLine → Option Reason
reason_by_lines P lines = if list_any is_open_line lines then reason_of P 32768 else None

-- ---- what is said

unfoldable pub reads_register : ℕ → List ℕ
reads_register register = codes "  It reads x" ++ decimal register ++ codes ", whose value comes from "

unfoldable pub read_under : List ℕ
read_under = codes ", read under "

unfoldable pub guarded_text : Located → ℕ → List ℕ
guarded_text l lock = read_under ++ lock_text l.program.locks lock

abbrev pub under_if : Located → Option ℕ → List ℕ
under_if l (Some lock) = guarded_text l lock
under_if l None = []

unfoldable pub ends_sentence : List ℕ
ends_sentence = codes "." ++ newline

unfoldable pub the_load : List ℕ
the_load = codes "  The load is at "

-- the register, the word that its value comes from, and the load
abbrev pub dependence_text : List ℕ → Located → Dependence → List ℕ
dependence_text text l d =
    reads_register d.register ++ word_text l.program.regions d.read.word.0 ++ under_if l d.read.lock ++ ends_sentence
    ++ place_if the_load text (code_place_at l.places d.read.pc)

abbrev pub depends_text : List ℕ → Located → Option Dependence → List ℕ
depends_text text l (Some d) = dependence_text text l d
depends_text text l None = []

unfoldable pub a_task : List ℕ
a_task = codes "  The task"

unfoldable pub task_that_line : ℕ → List ℕ
task_that_line line = codes " that line " ++ decimal line ++ codes " declares"

abbrev pub task_line_text : Option TaskPlace → List ℕ
task_line_text (Some t) = task_that_line t.line
task_line_text None = []

unfoldable pub holding_text : Located → ℕ → List ℕ
holding_text l lock = codes " holds " ++ lock_text l.program.locks lock ++ codes " and"

abbrev pub while_holding : Located → Option ℕ → List ℕ
while_holding l (Some lock) = holding_text l lock
while_holding l None = []

unfoldable pub takes_lock : Located → ℕ → List ℕ
takes_lock l lock = codes " takes " ++ lock_text l.program.locks lock

unfoldable pub taken_at_place : List ℕ
taken_at_place = codes " at "

abbrev pub place_or_end : List ℕ → Option CodePlace → List ℕ
place_or_end text (Some p) = place_behind taken_at_place text p
place_or_end text None = ends_sentence

-- the task, the lock that it holds, the one that it takes, and where
abbrev pub acquire_text : List ℕ → Located → ℕ → Taken → List ℕ
acquire_text text l phase t =
    a_task ++ task_line_text (find (is_task_of phase t.core.0) l.places.tasks) ++ while_holding l t.holding ++ takes_lock l t.lock.0
    ++ place_or_end text (code_place_at l.places t.pc)

abbrev pub takes_text : List ℕ → Located → ℕ → Option Taken → List ℕ
takes_text text l phase (Some t) = acquire_text text l phase t
takes_text text l phase None = []

abbrev pub open_phase : Open → ℕ
open_phase (Control phase core pc) = phase.0
open_phase (Held phase core lock) = phase.0
open_phase (Stuck phase lock) = phase.0

abbrev pub why_text : List ℕ → Located → Option Reason → List ℕ
why_text text l None = []
why_text text l (Some r) =
    depends_text text l r.dependence ++ takes_text text l (open_phase r.why) r.first ++ takes_text text l (open_phase r.why) r.second

-- what can be done where it is open what the runs have in common
unfoldable pub sweep_advice : List ℕ
sweep_advice = codes "  `./sweep --form answers` runs the program by many seeds, and lists which answers came and how often.\n"

-- what is said behind the sentences of a line by which an answer is open
abbrev pub said_of_reason : List ℕ → Located → Option Reason → AnswerLine → List ℕ
said_of_reason text l why x = if is_open_line x then why_text text l (reason_for why x) ++ sweep_advice else []
