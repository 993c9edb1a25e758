use Rattle.std.proofs.Common.{◌+◌, ◌-◌, arith}
use Rattle.rv_assembler.proofs.LoopLemmas.{members_step}
use Rattle.rv_assembler.proofs.draft.push_members.Goals as goal

pub loop-done-preserved : goal.loop-done-preserved
loop-done-preserved c =
    rw (c.in_ok-push.ensures.ok, c.more.ensures)
    (members_step c.loop-done.tasks c.loop-done.task c.args.step (c.args.count - c.loop-done._done) (c.args.count - (c.loop-done._done + 1)) _ (omega arith) c.loop-done.invariant)
