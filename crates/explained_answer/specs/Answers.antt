-- The answers of denovo, as lines: of a run, of its work, and of a checked program.
use Rattle.std.specs.Prelude.{ℕ, ◌+◌, ◌==◌, ◌%◌, ◌^◌, List, [], ◌∷◌, ◌++◌, length, map, sum, if◌then◌else◌}
use Rattle.dn_base.specs.declared.ids.Grant.{Grant}
use Rattle.message_net.specs.declared.event.EventKind.{EventKind}
use Rattle.grant_log.specs.declared.counts.Counts.{Counts}
use Rattle.grant_log.specs.Counts.{kind_count}
use Rattle.region_table.specs.Program.{ProgramParts, tasks_of}
use Rattle.rv_core.specs.declared.ending.Ending.{Ending}
use Rattle.run_report.specs.Run.{all_kinds}
use Rattle.run_report.specs.Summary.{retired_by_all}
use Rattle.explained_answer.specs.declared.line.AnswerLine as line
use Rattle.explained_answer.specs.declared.line.AnswerLine.{AnswerLine}
use Rattle.explained_answer.specs.declared.line.Count as count

-- the data words from w on that aren't 0
abbrev pub shown_words : ℕ → List ℕ → List AnswerLine
shown_words w [] = []
shown_words w (value ∷ values) = (if value == 0 then [] else line.TheVariants.Word w value ∷ []) ++ shown_words (w + 1) values

-- how a run ended: the outcome, the tasks that started, how many data words there are, and those that aren't 0
abbrev pub ending_lines : Ending → List AnswerLine
ending_lines e =
    line.TheVariants.Outcome e.outcome
    ∷ (map line.TheVariants.Task e.tasks ++ line.TheVariants.Count count.TheVariants.Words (length e.memory) ∷ shown_words 0 e.memory)

abbrev pub kind_line_of : Counts → EventKind → AnswerLine
kind_line_of counts k = line.TheVariants.Count (count.TheVariants.Kind k) (kind_count k counts)

-- the grants of locks in their order, and the counts of events
abbrev pub run_lines : List Grant → Counts → List AnswerLine
run_lines grants counts =
    map line.TheVariants.Grant grants ++ line.TheVariants.Count count.TheVariants.Events (sum counts.kinds) ∷ map (kind_line_of counts) all_kinds

-- the summary of a run
abbrev pub summary_lines : Ending → List AnswerLine
summary_lines e =
    line.TheVariants.Outcome e.outcome ∷ line.TheVariants.Count count.TheVariants.Tasks (length e.tasks)
    ∷ line.TheVariants.Count count.TheVariants.Retired (retired_by_all e.tasks) ∷ line.TheVariants.Count count.TheVariants.Words (length e.memory)
    ∷ line.TheVariants.Sum (sum e.memory % 2 ^ 32) ∷ []

-- the size of a checked program
abbrev pub size_line : ProgramParts → AnswerLine
size_line p = line.TheVariants.Checked (length p.phases) (length (tasks_of p.phases)) (length p.memory)
