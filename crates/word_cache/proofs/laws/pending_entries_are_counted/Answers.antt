use Rattle.word_cache.proofs.WeightLemmas.{pending_count-put, pending_count-without, pending_count-changed, pending_count-touched, pending_count-dropped_written, pending_count-dropped_signed, pending-most, pending-none}
use Rattle.word_cache.proofs.laws.pending_entries_are_counted.Goals as goal

pub returns-clause-put : goal.returns-clause-put
returns-clause-put c = pending_count-put

pub returns-clause-without : goal.returns-clause-without
returns-clause-without c = pending_count-without

pub returns-clause-changed : goal.returns-clause-changed
returns-clause-changed c = pending_count-changed

pub returns-clause-touched : goal.returns-clause-touched
returns-clause-touched c = pending_count-touched

pub returns-clause-phase : goal.returns-clause-phase
returns-clause-phase c = pending_count-dropped_written

pub returns-clause-grant : goal.returns-clause-grant
returns-clause-grant c = pending_count-dropped_signed

pub returns-clause-some : goal.returns-clause-some
returns-clause-some c = pending-most

pub returns-clause-none : goal.returns-clause-none
returns-clause-none c = pending-none
