use Rattle.std.proofs.Common.{length}
use Rattle.run_chart.proofs.Gathered.{AreSetsAdded}
use Rattle.run_chart.proofs.gathering.add_entries.Given as goal

abbrev pub invariant-loop-set : goal.invariant-loop-set
invariant-loop-set l = AreSetsAdded (length l.program.memory) l.node.cache.sets l.node.cache.pairs l.set l.fn.words.items l.words.items
