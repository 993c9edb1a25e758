use Rattle.std.proofs.Common.{take}
use Rattle.grant_log.proofs.CountLemmas.{AreCountsOf}
use Rattle.grant_log.proofs.counts.Counts.of.Given as goal

abbrev pub invariant-loop-entry : goal.invariant-loop-entry
invariant-loop-entry l = AreCountsOf (take l.entry-index l.merged) l.counts
