use Rattle.word_cache.proofs.LookLemmas.{lookup-dropped_written, lookup-dropped_signed}
use Rattle.word_cache.proofs.laws.each_entry_is_judged_alone.Goals as goal

pub returns-clause-phase : goal.returns-clause-phase
returns-clause-phase c = lookup-dropped_written

pub returns-clause-grant : goal.returns-clause-grant
returns-clause-grant c = lookup-dropped_signed
