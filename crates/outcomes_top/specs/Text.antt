-- The answer as it is printed.
use Rattle.std.specs.Prelude.{ℕ, ◌+◌, ◌*◌, List, [], ◌∷◌, ◌++◌, map, codes}
use Rattle.std.specs.Fmt.{decimal}
use Rattle.rv_core.specs.declared.ending.Ending.{Ending}
use Rattle.text_pieces.specs.Pieces.{newline, space, hexadecimal}
use Rattle.run_report.specs.Answer.{answer_of}
use Rattle.common_outcomes.specs.declared.value.Kind.{Kind}
use Rattle.common_outcomes.specs.declared.value.Kind.TheVariants.{Known}
use Rattle.common_outcomes.specs.declared.value.Value.{Value}
use Rattle.common_outcomes.specs.declared.answer.Open.{Open}
use Rattle.common_outcomes.specs.declared.answer.Open.TheVariants.{Control, Held, Stuck}
use Rattle.common_outcomes.specs.declared.answer.Common.{Common}

-- a word that isn't known counts as 0, and has no line so
abbrev pub number_by : Kind → ℕ → ℕ
number_by Known n = n
number_by _ n = 0

abbrev pub known_number : Value → ℕ
known_number v = number_by v.kind v.number

-- the ending of which the lines are printed: what is common, without the words that may vary
abbrev pub printed_ending : Common → Ending
printed_ending common = record { outcome = common.outcome; tasks = common.tasks; memory = map known_number common.memory }

-- the line of data word w, if it may vary; its address is 0x10000000 + 4w
abbrev pub varies_by : Kind → ℕ → List ℕ
varies_by Known w = []
varies_by _ w = codes "varies " ++ hexadecimal (268435456 + 4 * w) ++ newline

unfoldable pub varies_line : ℕ → Value → List ℕ
varies_line w v = varies_by v.kind w

-- the lines of the data words from w on that may vary
abbrev pub varies_lines : ℕ → List Value → List ℕ
varies_lines w [] = []
varies_lines w (v ∷ vs) = varies_line w v ++ varies_lines (w + 1) vs

-- the lines that are in the answer of every run, and the words that may vary
unfoldable pub common_text : Common → List ℕ
common_text common = answer_of (printed_ending common) ++ varies_lines 0 common.memory

-- why it is open what the runs have in common
unfoldable pub open_line : Open → List ℕ
open_line (Control phase core pc) = codes "open control " ++ decimal phase.0 ++ space ++ decimal core.0 ++ space ++ hexadecimal pc ++ newline
open_line (Held phase core lock) = codes "open held " ++ decimal phase.0 ++ space ++ decimal core.0 ++ space ++ decimal lock.0 ++ newline
open_line (Stuck phase lock) = codes "open stuck " ++ decimal phase.0 ++ space ++ decimal lock.0 ++ newline
