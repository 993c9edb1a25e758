-- The answer of a run, as it is printed.
use Rattle.std.specs.Prelude.{ℕ, ◌+◌, ◌*◌, ◌==◌, List, [], ◌∷◌, ◌++◌, length, codes, flat_map, if◌then◌else◌}
use Rattle.std.specs.Fmt.{decimal}
use Rattle.dn_base.specs.declared.status.Outcome as outcome
use Rattle.dn_base.specs.declared.status.Outcome.{Outcome}
use Rattle.rv_core.specs.declared.task.TrapKind as kind
use Rattle.rv_core.specs.declared.task.TrapKind.{TrapKind}
use Rattle.rv_core.specs.declared.ending.EndShown as shown
use Rattle.rv_core.specs.declared.ending.EndShown.{EndShown}
use Rattle.rv_core.specs.declared.ending.TaskEnd.{TaskEnd}
use Rattle.rv_core.specs.declared.ending.Ending.{Ending}
use Rattle.text_pieces.specs.Pieces.{newline, space, hexadecimal}

abbrev pub outcome_word : Outcome → List ℕ
outcome_word outcome.TheVariants.Done = codes "done"
outcome_word outcome.TheVariants.Trapped = codes "trapped"
outcome_word outcome.TheVariants.Fuel = codes "fuel"
outcome_word outcome.TheVariants.Stuck = codes "stuck"

abbrev pub kind_word : TrapKind → List ℕ
kind_word kind.TheVariants.Fetch = codes "fetch"
kind_word kind.TheVariants.Illegal = codes "illegal"
kind_word kind.TheVariants.Target = codes "target"
kind_word kind.TheVariants.Misaligned = codes "misaligned"
kind_word kind.TheVariants.Outside = codes "outside"
kind_word kind.TheVariants.Break = codes "break"
kind_word kind.TheVariants.Call = codes "call"
kind_word kind.TheVariants.NoLock = codes "nolock"
kind_word kind.TheVariants.Held = codes "held"
kind_word kind.TheVariants.NotHeld = codes "nothold"
kind_word kind.TheVariants.HeldEnd = codes "heldend"

-- how a task stands
abbrev pub end_text : EndShown → List ℕ
end_text shown.TheVariants.Finished = codes "finished"
end_text shown.TheVariants.Fuel = codes "fuel"
end_text (shown.TheVariants.Trap k pc value) =
    codes "trap " ++ kind_word k ++ codes " pc " ++ hexadecimal pc ++ codes " value " ++ hexadecimal value
end_text (shown.TheVariants.Waits lock) = codes "waits " ++ decimal lock.0

unfoldable pub outcome_line : Outcome → List ℕ
outcome_line o = codes "outcome " ++ outcome_word o ++ newline

unfoldable pub task_line : TaskEnd → List ℕ
task_line t =
    codes "task " ++ decimal t.phase.0 ++ space ++ decimal t.core.0 ++ space ++ end_text t.end ++ codes " retired " ++ decimal t.retired ++ newline

-- the same without the count of its instructions
unfoldable pub task_line_without_retired : TaskEnd → List ℕ
task_line_without_retired t = codes "task " ++ decimal t.phase.0 ++ space ++ decimal t.core.0 ++ space ++ end_text t.end ++ newline

unfoldable pub words_line : ℕ → List ℕ
words_line count = codes "words " ++ decimal count ++ newline

-- the line of data word w, whose address is 0x10000000 + 4w; a word that is 0 has none
unfoldable pub word_line : ℕ → ℕ → List ℕ
word_line w value =
    if value == 0 then [] else codes "word " ++ hexadecimal (268435456 + 4 * w) ++ space ++ hexadecimal value ++ newline

-- the lines of the data words from w on; a word that is 0 has none
abbrev pub word_lines : ℕ → List ℕ → List ℕ
word_lines w [] = []
word_lines w (value ∷ values) = word_line w value ++ word_lines (w + 1) values

-- the outcome, the tasks that started, the number of data words, and the data words that aren't 0
unfoldable pub answer_of : Ending → List ℕ
answer_of e =
    outcome_line e.outcome ++ flat_map task_line e.tasks ++ words_line (length e.memory) ++ word_lines 0 e.memory

-- the same without the counts of instructions
unfoldable pub answer_without_retired : Ending → List ℕ
answer_without_retired e =
    outcome_line e.outcome ++ flat_map task_line_without_retired e.tasks ++ words_line (length e.memory) ++ word_lines 0 e.memory
