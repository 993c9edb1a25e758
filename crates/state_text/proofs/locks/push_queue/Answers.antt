use Rattle.std.proofs.Common.{◌+◌, ◌-◌, length, arith}
use Rattle.state_text.specs.Parts.{queued_line_at}
use Rattle.state_text.proofs.Steps.{range-step}
use Rattle.state_text.proofs.locks.push_queue.Goals as goal

pub loop-index-preserved : goal.loop-index-preserved
loop-index-preserved c =
    rw (c.in_ok-push_if_queued.ensures, c.queued.ensures)
    (range-step (queued_line_at c.args.program.now c.args.lock.0 c.args.home.now.queue) c.loop-index.out.items c.loop-index.index
    (length c.args.home.now.queue - c.loop-index.index) (length c.args.home.now.queue - (c.loop-index.index + 1)) _ (omega (arith, c.loop-index-test.true)) c.loop-index.invariant)
