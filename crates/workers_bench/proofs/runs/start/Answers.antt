use Rattle.turn_lock.proofs.Fresh.{AreUnusedPasses-all}
use Rattle.workers_bench.proofs.runs.start.Goals as goal

pub returns : goal.returns
returns c = AreUnusedPasses-all c.in-Ok.turn 0 c.in-Ok.passes.items c.in-Ok.ensures.fresh
