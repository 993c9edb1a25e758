use Rattle.word_cache.proofs.LookLemmas.{lookup-put, lookup-without, lookup-changed, lookup-touched}
use Rattle.word_cache.proofs.laws.an_entry_changes_alone.Goals as goal

pub returns-clause-put : goal.returns-clause-put
returns-clause-put c = lookup-put

pub returns-clause-without : goal.returns-clause-without
returns-clause-without c = lookup-without

pub returns-clause-changed : goal.returns-clause-changed
returns-clause-changed c = lookup-changed

pub returns-clause-touched : goal.returns-clause-touched
returns-clause-touched c = lookup-touched
