use Rattle.machine_rules.specs.State.{initial_state}
use Rattle.time_order.specs.Clock.{clock_at_start}
use Rattle.time_order.proofs.OneOrder.{one-order}
use Rattle.time_order.proofs.Reached.{reached-first}
use Rattle.time_order.proofs.laws.there_is_one_run_in_time_order.Goals as goal

pub returns : goal.returns
returns c C ticks network events others ready complete order other also =
    one-order ticks network (initial_state C) clock_at_start events others (reached-first C ready) order complete.over also other.over
