use Rattle.std.proofs.Common.{rules, ◌≡◌, ◌<◌, flat_map, length, subst, arith}
use Rattle.std.proofs.lemmas.Grind.{common_steps}
use Rattle.std.proofs.lemmas.List.Elements.{All-more}
use Rattle.flat_machine.specs.declared.ending.TaskLoads.{TaskLoads}
use Rattle.claims.specs.declared.claim.ClaimTextError.TheVariants.{TooLarge}
use Rattle.claims.specs.Claim.{most_bytes, IsTask, task_rows}
use Rattle.claims.proofs.Sizes.{a-task}
use Rattle.claims.proofs.Taken.{all-taken}
use Rattle.claims.proofs.claim_writing.push_tasks.Goals as goal

pub loop-task-preserved : goal.loop-task-preserved
loop-task-preserved c = record {
  text = grind (arith, common_steps);
  fits = All-more IsTask c.args.tasks.now c.loop-task.task-index c.task-item.result c.loop-task-test.true c.loop-task.invariant.fits
      (subst IsTask c.task-item.is c.in_ok-push_task.ensures.fits);
}

pub returns-clause-fits : goal.returns-clause-fits
returns-clause-fits c = all-taken IsTask c.loop-task.task-index c.args.tasks.now c.loop-task-test.false c.loop-task.invariant.fits

pub returns-in_err-push_task-clause-large : goal.returns-in_err-push_task-clause-large
returns-in_err-push_task-clause-large c =
    let large : c.in_err-push_task.field-0.0 ≡ TooLarge → most_bytes < length (flat_map task_rows c.args.tasks.now) =
    λ e. a-task c.args.tasks.now c.loop-task.task-index c.task-item.result c.loop-task-test.true
    (subst (λ (t : TaskLoads). most_bytes < length (task_rows t)) c.task-item.is (c.in_err-push_task.ensures.large e))
    in
    search rules
