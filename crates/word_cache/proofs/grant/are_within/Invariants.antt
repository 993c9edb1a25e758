use Rattle.std.proofs.Common.{◌≡◌, ◌+◌, take}
use Rattle.word_cache.specs.Row.{interval_words}
use Rattle.word_cache.proofs.grant.are_within.Given as goal

abbrev pub invariant-loop-interval : goal.invariant-loop-interval
invariant-loop-interval l = l.left + interval_words (take l.interval-index l.intervals) ≡ l.fn.most
