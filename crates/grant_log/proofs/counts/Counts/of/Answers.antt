use Rattle.grant_log.proofs.CountLemmas.{one_more}
use Rattle.grant_log.proofs.counts.Counts.of.Goals as goal

pub loop-entry-preserved : goal.loop-entry-preserved
loop-entry-preserved c = one_more c.args.merged.now c.loop-entry.entry-index _ c.loop-entry.counts _ c.loop-entry-test.true c.loop-entry.invariant c.add.ensures
