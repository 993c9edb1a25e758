use Rattle.std.proofs.Common.{◌+◌, ◌-◌, arith}
use Rattle.text_places.proofs.PlaceLemmas.{task_step}
use Rattle.text_places.proofs.places.push_tasks.Goals as goal

pub loop-part-preserved : goal.loop-part-preserved
loop-part-preserved c =
    let more = c.loop-part-test.true in
    rw (c.in_ok-push.ensures.ok, c.core_at.ensures)
    (task_step c.args.phase c.args.line c.args.cores.first c.loop-part.part c.loop-part.tasks (c.args.cores.count - c.loop-part.part) (c.args.cores.count - (c.loop-part.part + 1)) _ (omega arith) c.loop-part.invariant)
