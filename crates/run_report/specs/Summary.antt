-- The summaries of a run and of a checked program, as they are printed.
use Rattle.std.specs.Prelude.{ℕ, ◌%◌, ◌^◌, List, ◌++◌, length, codes, sum, sum_by}
use Rattle.std.specs.Fmt.{decimal}
use Rattle.region_table.specs.Program.{ProgramParts, tasks_of}
use Rattle.rv_core.specs.declared.ending.TaskEnd.{TaskEnd}
use Rattle.rv_core.specs.declared.ending.Ending.{Ending}
use Rattle.text_pieces.specs.Pieces.{newline, space, hexadecimal}
use Rattle.run_report.specs.Answer.{outcome_line, words_line}

-- a word and a number
unfoldable pub count_line : List ℕ → ℕ → List ℕ
count_line word count = word ++ decimal count ++ newline

-- the sum of all words, modulo 2^32
unfoldable pub sum_line : List ℕ → List ℕ
sum_line memory = codes "sum " ++ hexadecimal (sum memory % 2 ^ 32) ++ newline

-- the instructions that all tasks retired
abbrev pub retired_by_all : List TaskEnd → ℕ
retired_by_all tasks = sum_by (λ (t : TaskEnd). t.retired) tasks

-- the outcome, the number of tasks that started, of the instructions that they retired, and of data words, and the words' sum
unfoldable pub summary_of : Ending → List ℕ
summary_of e =
    outcome_line e.outcome ++ count_line (codes "tasks ") (length e.tasks) ++ count_line (codes "retired ") (retired_by_all e.tasks)
    ++ words_line (length e.memory) ++ sum_line e.memory

-- how many phases, tasks and data words a program has
unfoldable pub checked_of : ProgramParts → List ℕ
checked_of p =
    codes "checked " ++ decimal (length p.phases) ++ space ++ decimal (length (tasks_of p.phases)) ++ space ++ decimal (length p.memory) ++ newline
