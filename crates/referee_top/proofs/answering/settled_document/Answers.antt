use Rattle.claims.specs.declared.claim.Claim.{Claim}
use Rattle.claims.proofs.Verdicts.{judgeable}
use Rattle.region_table.specs.Program.{ProgramParts}
use Rattle.referee_top.specs.Answers.{IsPlainDocument, IsSettledJudged}
use Rattle.referee_top.proofs.Told.{told}
use Rattle.referee_top.proofs.answering.settled_document.Goals as goal

pub settle_claim-requires : goal.settle_claim-requires
settle_claim-requires c = judgeable c.args.document.now c.in_ok-claim.claim c.in_ok-claim.ensures.ok.is

pub returns-clause-done : goal.returns-clause-done
returns-clause-done c =
    told IsPlainDocument (λ (d : Claim). d.question.text) c.args.document.now c.in_ok-claim.claim c.as_slice.result.now c.in_ok-checked.checked
    (λ (d : Claim) (P : ProgramParts). IsSettledJudged P d c.in_ok-settle_claim.field-0) c.in_ok-claim.ensures.ok c.as_slice.ensures c.in_ok-checked.ensures.ok c.in_ok-checked.ensures.checked c.in_ok-settle_claim.ensures
