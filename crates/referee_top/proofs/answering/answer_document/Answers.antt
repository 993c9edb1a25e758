use Rattle.std.proofs.Common.{inr, ℕ, List}
use Rattle.claims.specs.declared.claim.GrantOrder.{GrantOrder}
use Rattle.claims.specs.Alone.{IsOrderDocument}
use Rattle.claims.specs.Right.{IsRightClaim}
use Rattle.region_table.specs.Program.{ProgramParts}
use Rattle.referee_top.specs.declared.mode.RefereeMode as mode
use Rattle.referee_top.specs.Answers.{Reply, IsOrdered, IsUnwritten, mode_done, refused_with}
use Rattle.referee_top.proofs.Told.{told, ok-by, stop-by}
use Rattle.referee_top.proofs.answering.answer_document.Goals as goal

pub returns-clause-done : goal.returns-clause-done
returns-clause-done c =
    ok-by c.run_by_order.result (IsOrdered c.in_ok-checked.checked c.in_ok-order.order) (mode_done mode.TheVariants.Answer c.args.document.now) c.run_by_order.ensures.done
    (λ (out : Reply) is.
    told IsOrderDocument (λ (o : GrantOrder). o.question.text) c.args.document.now c.in_ok-order.order c.as_slice.result.now c.in_ok-checked.checked
    (λ (o : GrantOrder) (P : ProgramParts). IsOrdered P o out) c.in_ok-order.ensures.ok c.as_slice.ensures c.in_ok-checked.ensures.ok c.in_ok-checked.ensures.checked is)

pub returns-clause-stop : goal.returns-clause-stop
returns-clause-stop c =
    stop-by c.run_by_order.result (IsUnwritten (IsRightClaim c.in_ok-checked.checked c.in_ok-order.order.question c.in_ok-order.order.grants)) (refused_with mode.TheVariants.Answer c.args.document.now) c.run_by_order.ensures.stop
    (λ (line : List ℕ) is.
    let there =
    told IsOrderDocument (λ (o : GrantOrder). o.question.text) c.args.document.now c.in_ok-order.order c.as_slice.result.now c.in_ok-checked.checked
    (λ (o : GrantOrder) (P : ProgramParts). IsUnwritten (IsRightClaim P o.question o.grants) line) c.in_ok-order.ensures.ok c.as_slice.ensures c.in_ok-checked.ensures.ok c.in_ok-checked.ensures.checked is
    in
    inr (record { value = there.value; is = there.is; holds = inr there.holds }))
