use Rattle.registry_bank.proofs.RowLemmas.{lock-at_register, lock-at_write_back, lock-acquired, lock-released}
use Rattle.registry_bank.proofs.laws.locks_change_by_their_own_messages.Goals as goal

pub returns-clause-register : goal.returns-clause-register
returns-clause-register c = lock-at_register

pub returns-clause-write_back : goal.returns-clause-write_back
returns-clause-write_back c = lock-at_write_back

pub returns-clause-acquire : goal.returns-clause-acquire
returns-clause-acquire c = lock-acquired

pub returns-clause-release : goal.returns-clause-release
returns-clause-release c = lock-released
