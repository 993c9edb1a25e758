use Rattle.std.proofs.Common.{[], ◌∙◌}
use Rattle.std.proofs.lemmas.List.{get_or_default}
use Rattle.time_order.proofs.Sent.{taken-first}
use Rattle.time_order.proofs.sending.take_handled.Goals as goal

pub returns-in-Handle-clause-weights : goal.returns-in-Handle-clause-weights
returns-in-Handle-clause-weights c other weight =
    taken-first c.args.queues.now.items c.args.place c.index_mut-queue.result.now c.remove_first.new.self c.args.event c.in-Handle.field-0 c.in-Handle.is c.requires.place (c.index_mut-queue.ensures.value ∙ get_or_default c.args.queues.now.items c.args.place c.index_mut-queue.result.now [] c.requires.place)
    c.remove_first.ensures (c.requires.some c.in-Handle.field-0 c.in-Handle.is) other weight
