-- What all tasks of a phase did to the words, one task after the other.
use Rattle.std.specs.Prelude.{◌≡◌, ℕ, ◌+◌, ◌<◌, List, [], length, slice_index_or}
use Rattle.region_table.specs.Program.{ProgramParts}
use Rattle.region_table.specs.declared.declared.TaskDecl.{TaskDecl}
use Rattle.region_table.specs.declared.declared.Phase.{Phase}
use Rattle.rv_core.specs.declared.ending.TaskEnd.{TaskEnd}
use Rattle.common_outcomes.specs.declared.value.Value.{Value}
use Rattle.common_outcomes.specs.declared.value.Effect.{Effect}
use Rattle.common_outcomes.specs.declared.value.Effect.TheVariants.{Kept}
use Rattle.common_outcomes.specs.declared.answer.Outcomes.{Outcomes}
use Rattle.common_outcomes.specs.declared.answer.Outcomes as answer
use Rattle.common_outcomes.specs.Phases.{Summary, summary, effects_at}
use Rattle.common_outcomes.specs.Answer.{settled_with, answer_from}
use Rattle.outcomes_top.specs.declared.phase.Progress.{Progress}
use Rattle.outcomes_top.specs.declared.phase.Progress.TheVariants.{Open, Over, Goes}

abbrev pub effect_at : List Effect → ℕ → Effect
effect_at effects w = slice_index_or effects w Kept

-- these are the effects of all these tasks
abbrev pub AreEffectsOf : List Summary → List Effect → Type 0
AreEffectsOf rs effects = (w : ℕ) → w < length effects → effect_at effects w ≡ effects_at rs w

-- a summary without what is known of the registers and the words
abbrev pub without_words : Summary → Summary
without_words r = record { decl = r.decl; alone = record r.alone { kinds = []; cells = [] } }

abbrev pub outline_alone : ProgramParts → ℕ → Phase → List Value → TaskDecl → Summary
outline_alone P fuel p first d = without_words (summary P fuel p first d)

-- the answer after a phase: it is open, or the run is over, or the phases that are left decide
abbrev pub answer_after : Progress → ProgramParts → ℕ → ℕ → List Phase → List TaskEnd → List Value → Outcomes
answer_after (Open why) P fuel phase left ends memory = answer.TheVariants.Open why
answer_after Over P fuel phase left ends memory = settled_with ends memory
answer_after Goes P fuel phase left ends memory = answer_from P fuel (phase + 1) left ends memory
