use Rattle.registry_bank.proofs.RowLemmas.{read-changes_nothing, word-registered, word-written_back, word-at_acquire, word-at_release}
use Rattle.registry_bank.proofs.laws.words_change_by_their_own_messages.Goals as goal

pub returns-clause-read : goal.returns-clause-read
returns-clause-read c = read-changes_nothing

pub returns-clause-register : goal.returns-clause-register
returns-clause-register c = word-registered

pub returns-clause-write_back : goal.returns-clause-write_back
returns-clause-write_back c = word-written_back

pub returns-clause-acquire : goal.returns-clause-acquire
returns-clause-acquire c = word-at_acquire

pub returns-clause-release : goal.returns-clause-release
returns-clause-release c = word-at_release
