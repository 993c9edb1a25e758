use Rattle.common_outcomes.specs.Phases.{is_nested}
use Rattle.outcomes_top.proofs.LockLemmas.{row-more}
use Rattle.outcomes_top.proofs.circles.next_of.Goals as goal

pub loop-next-preserved : goal.loop-next-preserved
loop-next-preserved c =
    row-more (is_nested c.args.all.now c.args.lock) c.loop-next.row c.with_lock-row.result c.loop-next.next c.is_nested.result c.loop-next.invariant c.with_lock-row.ensures c.is_nested.ensures
