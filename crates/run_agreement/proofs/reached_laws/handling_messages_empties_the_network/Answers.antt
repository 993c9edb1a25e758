use Rattle.run_agreement.proofs.Choosing.{emptied, emptied-always}
use Rattle.run_agreement.proofs.reached_laws.handling_messages_empties_the_network.Goals as goal

pub returns-clause-some : goal.returns-clause-some
returns-clause-some c = emptied

pub returns-clause-every : goal.returns-clause-every
returns-clause-every c = emptied-always
