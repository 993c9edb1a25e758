use Rattle.message_net.proofs.Orders.{weight-permuted, posted-permuted, taken-permuted, rest-permuted}
use Rattle.message_net.proofs.laws.the_order_of_mails_does_not_matter.Goals as goal

pub returns-clause-weight : goal.returns-clause-weight
returns-clause-weight c = weight-permuted

pub returns-clause-posted : goal.returns-clause-posted
returns-clause-posted c = posted-permuted

pub returns-clause-removed : goal.returns-clause-removed
returns-clause-removed c = taken-permuted

pub returns-clause-rest : goal.returns-clause-rest
returns-clause-rest c = rest-permuted
