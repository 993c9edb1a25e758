use Rattle.std.proofs.Common.{sym, ◌∙◌, arith}
use Rattle.claims.proofs.LoadRows.{tasks_end}
use Rattle.claims.proofs.judging.judge_tasks.Goals as goal

pub returns : goal.returns
returns c = sym (c.loop-task.invariant ∙ tasks_end c.args.claimed.now c.args.right.now c.loop-task.task (omega arith))
