use Rattle.machine_rules.specs.State.{initial_state}
use Rattle.time_order.specs.Clock.{clock_at_start}
use Rattle.time_order.proofs.Orders.{never-fall}
use Rattle.time_order.proofs.Reached.{reached-first}
use Rattle.time_order.proofs.laws.starts_never_fall.Goals as goal

pub returns : goal.returns
returns c C ticks network events ready order = never-fall ticks network (initial_state C) clock_at_start events (reached-first C ready) order
