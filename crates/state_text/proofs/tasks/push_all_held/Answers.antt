use Rattle.std.proofs.Common.{◌+◌, ◌-◌, arith}
use Rattle.std.specs.Prelude.{length}
use Rattle.state_text.specs.Cores.{held_line}
use Rattle.state_text.proofs.Steps.{range-step}
use Rattle.state_text.proofs.tasks.push_all_held.Goals as goal

pub loop-lock-preserved : goal.loop-lock-preserved
loop-lock-preserved c =
    rw c.in_ok-push_if_held.ensures
    (range-step (held_line c.args.program.now c.args.core.0 c.args.held) c.loop-lock.out.items c.loop-lock.lock (length c.args.program.now.locks - c.loop-lock.lock) (length c.args.program.now.locks - (c.loop-lock.lock + 1)) _ (omega (arith, c.loop-lock-test.true)) c.loop-lock.invariant)
