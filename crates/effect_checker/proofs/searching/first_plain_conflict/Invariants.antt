use Rattle.effect_checker.proofs.FirstLemmas.{NoConflictBefore}
use Rattle.effect_checker.proofs.searching.first_plain_conflict.Given as goal

abbrev pub invariant-loop-writer : goal.invariant-loop-writer
invariant-loop-writer l = NoConflictBefore l.tasks l.writer-index
