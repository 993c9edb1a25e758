use Rattle.queue_lock.proofs.RowLemmas.{holder-released, queue-released, kept-released, answer-released}
use Rattle.queue_lock.proofs.laws.a_release_hands_the_lock_on.Goals as goal

pub returns-clause-holder : goal.returns-clause-holder
returns-clause-holder c = holder-released

pub returns-clause-queue : goal.returns-clause-queue
returns-clause-queue c = queue-released

pub returns-clause-kept : goal.returns-clause-kept
returns-clause-kept c = kept-released

pub returns-clause-answer : goal.returns-clause-answer
returns-clause-answer c = answer-released
