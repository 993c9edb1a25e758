use Rattle.run_account.proofs.Kinded.{kinds-are, words-are, locks-are, barriers-are}
use Rattle.run_account.proofs.traffic_laws.bytes_are_those_of_the_messages.Goals as goal

pub returns-clause-kind : goal.returns-clause-kind
returns-clause-kind c C events k m its ready run = kinds-are C events ready run k m its

pub returns-clause-words : goal.returns-clause-words
returns-clause-words c = words-are

pub returns-clause-locks : goal.returns-clause-locks
returns-clause-locks c = locks-are

pub returns-clause-barrier : goal.returns-clause-barrier
returns-clause-barrier c = barriers-are
