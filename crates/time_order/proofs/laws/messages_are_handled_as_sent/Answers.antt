use Rattle.machine_rules.specs.State.{initial_state}
use Rattle.time_order.proofs.AsSent.{handled-as-sent}
use Rattle.time_order.proofs.laws.messages_are_handled_as_sent.Goals as goal

pub returns : goal.returns
returns c C ticks network events ready order = handled-as-sent ticks network C events ready order
