use Rattle.machine_rules.specs.State.{initial_state}
use Rattle.time_order.proofs.Orders.{nothing-passed}
use Rattle.time_order.proofs.laws.nothing_is_passed_over.Goals as goal

pub returns : goal.returns
returns c C ticks network events order = nothing-passed ticks network (initial_state C) events order
