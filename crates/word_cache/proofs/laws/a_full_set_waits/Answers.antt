use Rattle.word_cache.proofs.CacheLaws.{full-blocked}
use Rattle.word_cache.proofs.laws.a_full_set_waits.Goals as goal

pub returns : goal.returns
returns c = λ d w good some full none. let found = full-blocked d w good some full none in (found.word, found.shares, found.stuck)
