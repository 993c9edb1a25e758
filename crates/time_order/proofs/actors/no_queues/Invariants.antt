use Rattle.std.proofs.Common.{◌≡◌, [], replicate}
use Rattle.time_order.proofs.actors.no_queues.Given as goal

abbrev pub invariant-loop-actor : goal.invariant-loop-actor
invariant-loop-actor l = l.queues.items ≡ replicate l._actor []
