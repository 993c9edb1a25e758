use Rattle.std.proofs.Common.{[], ap, ◌∙◌}
use Rattle.std.specs.Option.{unwrap_or}
use Rattle.std.proofs.lemmas.Option.{unwrap_or-slice_get}
use Rattle.region_table.proofs.PlanLemmas.{guards_more}
use Rattle.region_table.proofs.plan.words_guarded.Goals as goal

pub loop-task-preserved : goal.loop-task-preserved
loop-task-preserved c = λ w.
    guards_more c.as_slice-task-items.result.now c.loop-task.task-index c.args.lock w c.task-item.result c.loop-task.all c.in_ok-reads.reads c.in_ok-all.all _ _ c.loop-task-test.true c.task-item.is
    (ap (λ o. unwrap_or o []) c.get.ensures ∙ unwrap_or-slice_get c.task-item.result.effects.guarded_reads c.args.lock [])
    (ap (λ o. unwrap_or o []) c.get-in-loop-task.ensures ∙ unwrap_or-slice_get c.task-item.result.effects.guarded_writes c.args.lock [])
    (c.loop-task.invariant w) (c.in_ok-reads.ensures w) (c.in_ok-all.ensures w)
