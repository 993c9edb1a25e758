use Rattle.std.proofs.Common.{ap, ◌∙◌}
use Rattle.text_places.specs.Places.{text_places}
use Rattle.claims.specs.declared.claim.Claim.{Claim}
use Rattle.claims.specs.Claim.{IsClaimDocument}
use Rattle.claims.proofs.Verdicts.{judgeable}
use Rattle.region_table.specs.Program.{ProgramParts}
use Rattle.referee_top.specs.Answers.{IsDiagnosed}
use Rattle.referee_top.proofs.Told.{told}
use Rattle.referee_top.proofs.answering.diagnose_document.Goals as goal

pub diagnose_claim-requires-clause-claim : goal.diagnose_claim-requires-clause-claim
diagnose_claim-requires-clause-claim c = judgeable c.args.document.now c.in_ok-claim.claim c.in_ok-claim.ensures.ok

pub returns-clause-done : goal.returns-clause-done
returns-clause-done c =
    told IsClaimDocument (λ (d : Claim). d.question.text) c.args.document.now c.in_ok-claim.claim c.as_slice.result.now c.in_ok-checked.checked
    (λ (d : Claim) (P : ProgramParts). IsDiagnosed P d c.in_ok-diagnose_claim.field-0) c.in_ok-claim.ensures.ok c.as_slice.ensures c.in_ok-checked.ensures.ok c.in_ok-checked.ensures.checked c.in_ok-diagnose_claim.ensures

pub diagnose_claim-requires-clause-places : goal.diagnose_claim-requires-clause-places
diagnose_claim-requires-clause-places c = c.in_ok-places.ensures ∙ ap text_places c.as_slice-2.ensures
