-- What is said of a claimed answer where it is settled what all runs have in common: only settled lines are compared.
use Rattle.std.specs.Prelude.{ℕ, ◌+◌, ◌*◌, ◌==◌, if◌then◌else◌, List, [], ◌∷◌, ◌++◌, length, codes, flat_map, Option, Some, None, option_and_then, unwrap_or}
use Rattle.text_pieces.specs.Pieces.{newline, space, hexadecimal}
use Rattle.text_pieces.specs.Base16.{seems_word}
use Rattle.run_report.specs.Answer.{outcome_line, task_line, words_line, word_line}
use Rattle.common_outcomes.specs.declared.value.Kind.{Kind}
use Rattle.common_outcomes.specs.declared.value.Kind.TheVariants.{Known}
use Rattle.common_outcomes.specs.declared.value.Value.{Value}
use Rattle.common_outcomes.specs.declared.answer.Common.{Common}
use Rattle.claims.specs.declared.verdict.Verdict.{Verdict}
use Rattle.claims.specs.declared.verdict.Verdict.TheVariants.{Agrees, Answer}
use Rattle.claims.specs.Judge.{answer_verdict}

-- what follows these bytes in a text that begins with them
abbrev pub behind_prefix : List ℕ → List ℕ → Option (List ℕ)
behind_prefix [] text = Some text
behind_prefix (b ∷ bs) [] = None
behind_prefix (b ∷ bs) (c ∷ cs) = if b == c then behind_prefix bs cs else None

-- ---- a word

-- the line of a word, up to its value, and without its newline
unfoldable pub word_front : ℕ → List ℕ
word_front w = codes "word " ++ hexadecimal (268435456 + 4 * w) ++ space

unfoldable pub word_bytes : ℕ → ℕ → List ℕ
word_bytes w value = word_front w ++ hexadecimal value

-- what follows a value and a newline in a text that begins with them
abbrev pub behind_value : List ℕ → Option (List ℕ)
behind_value text = behind_prefix (hexadecimal (seems_word text) ++ newline) text

-- what follows the line of a word in a text that begins with it, whatever the value is; else the text
abbrev pub behind_any : ℕ → List ℕ → List ℕ
behind_any w text = unwrap_or (option_and_then behind_value (behind_prefix (word_front w) text)) text

-- what follows what an answer should say of a word: its line if it is known; one line or none if it may vary
abbrev pub behind_by : Kind → ℕ → ℕ → List ℕ → Option (List ℕ)
behind_by Known value w text = behind_prefix (word_line w value) text
behind_by _ value w text = Some (behind_any w text)

abbrev pub behind_word : ℕ → Value → List ℕ → Option (List ℕ)
behind_word w v text = behind_by v.kind v.number w text

abbrev pub lines_by : Kind → ℕ → ℕ
lines_by Known value = if value == 0 then 0 else 1
lines_by _ value = 0

-- how many settled lines a word has: one if it is known, and isn't 0
abbrev pub settled_lines : Value → ℕ
settled_lines v = lines_by v.kind v.number

-- ---- an answer

-- the settled lines in front of those of the words are printed of words that are 0, which have no lines
abbrev pub no_number : Value → ℕ
no_number v = 0

-- the settled lines in front of those of the words
unfoldable pub settled_front : Common → List ℕ
settled_front common = outcome_line common.outcome ++ flat_map task_line common.tasks ++ words_line (length common.memory)

-- how many lines these are
abbrev pub front_lines : Common → ℕ
front_lines common = length common.tasks + 2

-- all settled lines stood there, and nothing may follow
abbrev pub rest_verdict : ℕ → List ℕ → Verdict
rest_verdict line [] = Agrees
rest_verdict line (b ∷ bs) = Answer line None

abbrev pub verdict_or : Option (List ℕ) → (List ℕ → Verdict) → Verdict → Verdict
verdict_or None go differs = differs
verdict_or (Some rest) go differs = go rest

-- the verdict on the part of an answer that tells the words from w on; `line` is the number of the next settled line
abbrev pub words_verdict : ℕ → ℕ → List Value → List ℕ → Verdict
words_verdict line w [] text = rest_verdict line text
words_verdict line w (v ∷ vs) text =
    verdict_or (behind_word w v text) (λ rest. words_verdict (line + settled_lines v) (w + 1) vs rest) (Answer line (Some (word_bytes w v.number)))

-- the verdict on a claimed answer: it agrees, or the first settled line that doesn't stand there
unfoldable pub settled_verdict : Common → List ℕ → Verdict
settled_verdict common claimed =
    verdict_or (behind_prefix (settled_front common) claimed) (λ rest. words_verdict (front_lines common) 0 common.memory rest)
    (answer_verdict claimed (settled_front common))
