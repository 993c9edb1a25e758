use Rattle.queue_lock.proofs.RowLemmas.{holder-acquired, queue-acquired, kept-acquired, answer-acquired}
use Rattle.queue_lock.proofs.laws.an_acquire_counts_its_core.Goals as goal

pub returns-clause-holder : goal.returns-clause-holder
returns-clause-holder c = holder-acquired

pub returns-clause-queue : goal.returns-clause-queue
returns-clause-queue c = queue-acquired

pub returns-clause-kept : goal.returns-clause-kept
returns-clause-kept c = kept-acquired

pub returns-clause-answer : goal.returns-clause-answer
returns-clause-answer c = answer-acquired
