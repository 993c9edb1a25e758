-- Definitions for the laws of the program, in src/laws.rt.
use Rattle.std.specs.Prelude.{◌≡◌, ℕ, List}
use Rattle.rv_core.specs.declared.ending.Ending.{Ending}
use Rattle.region_table.specs.Program.{ProgramParts}
use Rattle.common_outcomes.specs.declared.answer.Common.{Common}
use Rattle.common_outcomes.specs.declared.answer.Outcomes.TheVariants.{Settled}
use Rattle.common_outcomes.specs.Answer.{outcomes}
use Rattle.common_outcomes.specs.Laws.{IsCommonTo}
use Rattle.run_report.specs.Answer.{answer_of}
use Rattle.claims.specs.declared.claim.Claim.{Claim}
use Rattle.claims.specs.Claim.{IsClaimDocument}
use Rattle.claims.specs.Judge.{AgreesWithRun}
use Rattle.run_report.specs.Texts.{HasChecked}
use Rattle.referee_top.specs.Answers.{HasTold, IsPlainDocument}

-- the bytes claim what one thread on one memory does by the claimed grants
abbrev pub IsClaimOfOneThread : List ℕ → Type 0
IsClaimOfOneThread document = HasTold IsClaimDocument document (λ c. HasChecked c.question.text (λ P. AgreesWithRun P c))

-- an ending that has what is common has this answer
pub record IsAnswerOfSome (common : Common) (answer : List ℕ) : Type 0 where
  pub ending : Ending
  pub has : IsCommonTo common ending
  pub is : answer ≡ answer_of ending

-- it is settled what the runs of the claim's program have in common, and an ending that has it has the claimed answer
pub record AgreesWithCommon (P : ProgramParts) (c : Claim) : Type 0 where
  pub common : Common
  pub settled : outcomes P c.question.fuel ≡ Settled common
  pub answer : IsAnswerOfSome common c.answer

-- the bytes claim the answer of such an ending, and nothing of grants and loads
abbrev pub IsClaimOfCommon : List ℕ → Type 0
IsClaimOfCommon document = HasTold IsPlainDocument document (λ c. HasChecked c.question.text (λ P. AgreesWithCommon P c))
