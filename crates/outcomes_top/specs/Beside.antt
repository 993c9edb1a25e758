-- What is printed beside the answer of a run, byte by byte.
use Rattle.std.specs.Prelude.{◌≡◌, ◌⊎◌, ℕ, List, [], ◌++◌, length, flat_map, slice_index}
use Rattle.rv_core.specs.declared.ending.Ending.{Ending}
use Rattle.run_report.specs.Answer.{answer_of, outcome_line, task_line, words_line, word_line, word_lines}

-- the lines before those of words: the outcome, the ends of tasks, and how many words there are
abbrev pub lines_before_words : Ending → List ℕ
lines_before_words e = outcome_line e.outcome ++ flat_map task_line e.tasks ++ words_line (length e.memory)

-- what is printed and the answer begin with the same lines. Then come lines of words, by these numbers: each is the answer's line
-- of its word, or there is none. Last come the lines of words that may vary
pub record StandsInAnswer (printed : List ℕ) (e : Ending) : Type 0 where
  pub numbers : List ℕ
  pub varies : List ℕ
  pub ours : printed ≡ lines_before_words e ++ (word_lines 0 numbers ++ varies)
  pub answer : answer_of e ≡ lines_before_words e ++ word_lines 0 e.memory
  pub words : (w : ℕ) → (word_line w (slice_index numbers w) ≡ []) ⊎ (word_line w (slice_index numbers w) ≡ word_line w (slice_index e.memory w))
