use Rattle.word_cache.specs.Row.{IsLeastUsed, place_gives_way}
use Rattle.word_cache.proofs.places.victim_place.Given as goal

abbrev pub invariant-loop-index : goal.invariant-loop-index
invariant-loop-index l = IsLeastUsed (place_gives_way l.sets l.fn.word.0) l.row l.start l.index l.best
