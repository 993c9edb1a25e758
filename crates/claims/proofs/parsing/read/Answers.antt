use Rattle.std.proofs.Common.{rules, ◌≡◌, ◌≢◌, List, ℕ, sym, ◌∙◌, subst}
use Rattle.claims.specs.declared.claim.ClaimFault.TheVariants.{Memory as NoMemory}
use Rattle.claims.specs.declared.claim.Question.{Question}
use Rattle.claims.specs.Claim.{IsClaimDocument}
use Rattle.claims.specs.Faults.{HasFault}
use Rattle.claims.specs.Rows.{asked_by}
use Rattle.claims.proofs.Parts.{loads_fail, claim_read}
use Rattle.claims.proofs.parsing.read.Goals as goal

pub returns-in_err-answer-clause-err : goal.returns-in_err-answer-clause-err
returns-in_err-answer-clause-err c =
    let fails : c.in_err-answer.field-0.0 ≢ NoMemory → HasFault c.args.bytes.now c.in_err-answer.field-0.0 =
    loads_fail c.args.bytes.now (asked_by c.in_ok-front.front) c.push_front.new.grants c.in_ok-front.front.rest.now c.in_ok-front.ensures.ok c.in_err-answer.field-0.0 c.in_err-answer.ensures.err in
    search rules

pub returns-clause-ok : goal.returns-clause-ok
returns-clause-ok c =
    let read = claim_read c.args.bytes.now (asked_by c.in_ok-front.front) c.push_front.new.grants c.in_ok-front.front.rest.now c.in_ok-front.ensures.ok c.put_loads.new.loads
    c.in_ok-answer.answer.now c.in_ok-answer.ensures.ok in
    let answer : c.from_vec.result ≡ c.in_ok-answer.answer.now = c.from_vec.ensures ∙ c.in_ok-answer-2.ensures.items in
    subst (λ (q : Question). IsClaimDocument c.args.bytes.now (record { question = q; grants = c.push_front.new.grants; loads = c.put_loads.new.loads; answer = c.from_vec.result }))
    (sym c.in_ok-question.ensures)
    (subst (λ (a : List ℕ). IsClaimDocument c.args.bytes.now (record { question = asked_by c.in_ok-front.front; grants = c.push_front.new.grants; loads = c.put_loads.new.loads; answer = a })) (sym answer) read)
