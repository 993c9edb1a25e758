use Rattle.std.proofs.Common.{sym, subst, arith}
use Rattle.claims.specs.Alone.{IsQuestionDocument}
use Rattle.claims.proofs.Fronts.{question_read}
use Rattle.claims.proofs.alone.question.Goals as goal

pub returns-clause-ok : goal.returns-clause-ok
returns-clause-ok c =
    subst (IsQuestionDocument c.args.bytes.now) (sym c.in_ok-question_of.ensures) (question_read c.args.bytes.now c.in-Some.opening (omega arith) c.in-Some.ensures.some (omega arith))
