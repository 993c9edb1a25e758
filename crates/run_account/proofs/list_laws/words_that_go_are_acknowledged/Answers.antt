use Rattle.run_account.proofs.ListGone.{acks-are, shares-are}
use Rattle.run_account.proofs.list_laws.words_that_go_are_acknowledged.Goals as goal

pub returns-clause-acknowledged : goal.returns-clause-acknowledged
returns-clause-acknowledged c = acks-are

pub returns-clause-shared : goal.returns-clause-shared
returns-clause-shared c = shares-are
