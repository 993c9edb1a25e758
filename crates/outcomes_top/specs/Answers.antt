-- The program's answer to a fuel and a text.
use Rattle.std.specs.Prelude.{◌≡◌, ◌≢◌, ◌⊎◌, ℕ, ◌≤◌, List, length}
use Rattle.dn_base.specs.declared.limits.TheConstants.{MOST_WORDS}
use Rattle.dn_base.specs.declared.status.Outcome as outcome
use Rattle.rv_core.specs.declared.ending.Ending.{Ending}
use Rattle.common_outcomes.specs.Laws.{IsCommonTo}
use Rattle.region_table.specs.Program.{ProgramParts, IsProgram}
use Rattle.region_table.specs.Numbers.{HasWords}
use Rattle.run_report.specs.Texts.{HasChecked, IsUnfit}
use Rattle.program_outside.specs.declared.ends.Output.{Output}
use Rattle.common_outcomes.specs.declared.answer.Common.{Common}
use Rattle.common_outcomes.specs.declared.answer.Outcomes.{Outcomes}
use Rattle.common_outcomes.specs.declared.answer.Outcomes.TheVariants.{Settled, Open}
use Rattle.common_outcomes.specs.Answer.{outcomes}
use Rattle.outcomes_top.specs.Text.{common_text, open_line}
use Rattle.outcomes_top.specs.declared.status.OutcomesStatus.{OutcomesStatus}
use Rattle.outcomes_top.specs.declared.status.OutcomesStatus as status

-- a status of the program, and all bytes that are to be written
abbrev pub OutcomesReply : Type 0
OutcomesReply = Output OutcomesStatus

-- the numbers of words and tasks are within the limits of a program
abbrev pub IsOutcomesPrintable : Outcomes → Type 0
IsOutcomesPrintable (Settled common) = (length common.memory ≤ MOST_WORDS) × (length common.tasks ≤ 64)
IsOutcomesPrintable (Open why) = Unit {0}

abbrev pub settled_reply : List ℕ → OutcomesReply
settled_reply text = record { status = status.TheVariants.Settled; bytes = text }

-- what is printed of an answer
abbrev pub outcomes_reply : Outcomes → OutcomesReply
outcomes_reply (Settled common) = settled_reply (common_text common)
outcomes_reply (Open why) = record { status = status.TheVariants.Open; bytes = open_line why }

-- it is the answer of this program, which is well formed, and of which each number has 32 bits
pub record IsOutcomeFound (P : ProgramParts) (fuel : ℕ) (out : OutcomesReply) : Type 0 where
  pub well_formed : IsProgram P
  pub words : HasWords P
  pub answer : out ≡ outcomes_reply (outcomes P fuel)

-- a text that is refused
pub record IsTextRefused (text : List ℕ) (out : OutcomesReply) : Type 0 where
  pub line : List ℕ
  pub why : IsUnfit text line
  pub answer : out ≡ record { status = status.TheVariants.Refused; bytes = line }

abbrev pub IsOutcomesAnswer : ℕ → List ℕ → OutcomesReply → Type 0
IsOutcomesAnswer fuel text out = HasChecked text (λ P. IsOutcomeFound P fuel out) ⊎ IsTextRefused text out

-- what is printed is what some runs have in common, and this is the ending of one of them
pub record HasPrinted (bytes : List ℕ) (e : Ending) : Type 0 where
  pub common : Common
  pub printed : bytes ≡ common_text common
  pub has : IsCommonTo common e
  pub goes_on : e.outcome ≢ outcome.TheVariants.Stuck
