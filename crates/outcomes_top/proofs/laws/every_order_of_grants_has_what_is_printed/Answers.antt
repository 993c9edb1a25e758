use Rattle.outcomes_top.proofs.PrintedLemmas.{order-printed}
use Rattle.outcomes_top.proofs.laws.every_order_of_grants_has_what_is_printed.Goals as goal

pub returns : goal.returns
returns c = order-printed
