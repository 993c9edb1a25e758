use Rattle.std.proofs.Common.{inr, ℕ, List}
use Rattle.claims.specs.declared.claim.Question.{Question}
use Rattle.claims.specs.Alone.{IsQuestionDocument}
use Rattle.claims.specs.Right.{IsLeastClaim}
use Rattle.region_table.specs.Program.{ProgramParts}
use Rattle.referee_top.specs.declared.mode.RefereeMode as mode
use Rattle.referee_top.specs.Answers.{Reply, IsLeastReply, IsUnwritten, mode_done, refused_with}
use Rattle.referee_top.proofs.Told.{told, ok-by, stop-by}
use Rattle.referee_top.proofs.answering.least_document.Goals as goal

pub returns-clause-done : goal.returns-clause-done
returns-clause-done c =
    ok-by c.least.result (IsLeastReply c.in_ok-checked.checked c.in_ok-question.question) (mode_done mode.TheVariants.Least c.args.document.now) c.least.ensures.done
    (λ (out : Reply) is.
    told IsQuestionDocument (λ (q : Question). q.text) c.args.document.now c.in_ok-question.question c.as_slice.result.now c.in_ok-checked.checked
    (λ (q : Question) (P : ProgramParts). IsLeastReply P q out) c.in_ok-question.ensures.ok c.as_slice.ensures c.in_ok-checked.ensures.ok c.in_ok-checked.ensures.checked is)

pub returns-clause-stop : goal.returns-clause-stop
returns-clause-stop c =
    stop-by c.least.result (IsUnwritten (IsLeastClaim c.in_ok-checked.checked c.in_ok-question.question)) (refused_with mode.TheVariants.Least c.args.document.now) c.least.ensures.stop
    (λ (line : List ℕ) is.
    let there =
    told IsQuestionDocument (λ (q : Question). q.text) c.args.document.now c.in_ok-question.question c.as_slice.result.now c.in_ok-checked.checked
    (λ (q : Question) (P : ProgramParts). IsUnwritten (IsLeastClaim P q) line) c.in_ok-question.ensures.ok c.as_slice.ensures c.in_ok-checked.ensures.ok c.in_ok-checked.ensures.checked is
    in
    inr (record { value = there.value; is = there.is; holds = inr there.holds }))
