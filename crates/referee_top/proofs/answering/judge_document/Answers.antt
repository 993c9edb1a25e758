use Rattle.claims.specs.declared.claim.Claim.{Claim}
use Rattle.claims.specs.Claim.{IsClaimDocument}
use Rattle.claims.proofs.Verdicts.{judgeable}
use Rattle.region_table.specs.Program.{ProgramParts}
use Rattle.referee_top.specs.Answers.{IsJudged}
use Rattle.referee_top.proofs.Told.{told}
use Rattle.referee_top.proofs.answering.judge_document.Goals as goal

pub judge_claim-requires : goal.judge_claim-requires
judge_claim-requires c = judgeable c.args.document.now c.in_ok-claim.claim c.in_ok-claim.ensures.ok

pub returns-clause-done : goal.returns-clause-done
returns-clause-done c =
    told IsClaimDocument (λ (d : Claim). d.question.text) c.args.document.now c.in_ok-claim.claim c.as_slice.result.now c.in_ok-checked.checked
    (λ (d : Claim) (P : ProgramParts). IsJudged P d c.in_ok-judge_claim.field-0) c.in_ok-claim.ensures.ok c.as_slice.ensures c.in_ok-checked.ensures.ok c.in_ok-checked.ensures.checked c.in_ok-judge_claim.ensures
