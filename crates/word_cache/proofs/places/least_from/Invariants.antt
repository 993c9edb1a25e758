use Rattle.word_cache.specs.Row.{IsLeastUsed, is_from}
use Rattle.word_cache.proofs.places.least_from.Given as goal

abbrev pub invariant-loop-index : goal.invariant-loop-index
invariant-loop-index l = IsLeastUsed (is_from l.time) l.row 0 l.index l.best
