use Rattle.word_cache.proofs.CacheLaws.{cache-empty, cache-put, cache-without, cache-changed, cache-touched, cache-dropped_written, cache-dropped_signed}
use Rattle.word_cache.proofs.laws.a_cache_stays_a_cache.Goals as goal

pub returns-clause-empty : goal.returns-clause-empty
returns-clause-empty c = cache-empty

pub returns-clause-put : goal.returns-clause-put
returns-clause-put c = cache-put

pub returns-clause-without : goal.returns-clause-without
returns-clause-without c = cache-without

pub returns-clause-changed : goal.returns-clause-changed
returns-clause-changed c = cache-changed

pub returns-clause-touched : goal.returns-clause-touched
returns-clause-touched c = cache-touched

pub returns-clause-phase : goal.returns-clause-phase
returns-clause-phase c = cache-dropped_written

pub returns-clause-grant : goal.returns-clause-grant
returns-clause-grant c = cache-dropped_signed
