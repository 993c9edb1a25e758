use Rattle.std.proofs.Common.{◌≡◌}
use Rattle.claims.specs.declared.claim.ClaimFault.TheVariants.{TooLarge as AreTooMany, Head as NoHead, Memory}
use Rattle.claims.specs.Alone.{IsQuestionDocument, HasQuestionFault}
use Rattle.claims.proofs.Fronts.{one-question, question-fault, one-question_fault}
use Rattle.claims.proofs.Told.{answers, faults, told-exactly}
use Rattle.claims.proofs.alone.read_question.Goals as goal

pub returns-clause-read : goal.returns-clause-read
returns-clause-read c = answers (IsQuestionDocument c.args.bytes.now) (HasQuestionFault c.args.bytes.now) (one-question c.args.bytes.now) (question-fault c.args.bytes.now) c.question.result c.question.ensures.ok c.question.ensures.err

pub returns-clause-refused : goal.returns-clause-refused
returns-clause-refused c = faults (IsQuestionDocument c.args.bytes.now) (HasQuestionFault c.args.bytes.now) (one-question_fault c.args.bytes.now) (question-fault c.args.bytes.now) c.question.result c.question.ensures.ok c.question.ensures.err

pub returns-clause-large : goal.returns-clause-large
returns-clause-large c = told-exactly (HasQuestionFault c.args.bytes.now) c.question.result AreTooMany (λ (e : AreTooMany ≡ Memory). cc) c.question.ensures.err c.question.ensures.large

pub returns-clause-head : goal.returns-clause-head
returns-clause-head c = told-exactly (HasQuestionFault c.args.bytes.now) c.question.result NoHead (λ (e : NoHead ≡ Memory). cc) c.question.ensures.err c.question.ensures.head
