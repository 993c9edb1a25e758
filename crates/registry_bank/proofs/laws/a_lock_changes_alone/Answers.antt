use Rattle.registry_bank.proofs.ChangeLemmas.{lock-changed}
use Rattle.registry_bank.proofs.laws.a_lock_changes_alone.Goals as goal

pub returns-clause-locks : goal.returns-clause-locks
returns-clause-locks c = lock-changed
