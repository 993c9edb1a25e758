use Rattle.std.proofs.Common.{◌≡◌, drop}
use Rattle.claims.specs.Judge.{tasks_verdict}
use Rattle.claims.proofs.judging.judge_tasks.Given as goal

abbrev pub invariant-loop-task : goal.invariant-loop-task
invariant-loop-task l = tasks_verdict l.claimed l.right ≡ tasks_verdict (drop l.task l.claimed) (drop l.task l.right)
