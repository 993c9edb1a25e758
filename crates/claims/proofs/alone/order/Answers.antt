use Rattle.std.proofs.Common.{sym, subst, arith}
use Rattle.claims.specs.declared.claim.Question.{Question}
use Rattle.claims.specs.Alone.{IsOrderDocument}
use Rattle.claims.specs.Rows.{asked_by}
use Rattle.claims.proofs.Parts.{order_read}
use Rattle.claims.proofs.alone.order.Goals as goal

pub returns-clause-ok : goal.returns-clause-ok
returns-clause-ok c =
    subst (λ (q : Question). IsOrderDocument c.args.bytes.now (record { question = q; grants = c.push_front.new.grants })) (sym c.in_ok-question.ensures)
    (order_read c.args.bytes.now (asked_by c.in_ok-front.front) c.push_front.new.grants c.in_ok-front.front.rest.now c.in_ok-front.ensures.ok (omega arith))
