use Rattle.effect_prover.proofs.AnswerLemmas.{tasks-all}
use Rattle.effect_prover.proofs.prover.check_tasks.Goals as goal

pub returns-clause-answer : goal.returns-clause-answer
returns-clause-answer c = tasks-all c.args.program.now c.args.tasks.now c.loop-task.task-index c.loop-task-test.false c.loop-task.invariant.proven
