use Rattle.std.proofs.Common.{refl}
use Rattle.registration_protocol.specs.Node.{entry_of}
use Rattle.registration_protocol.proofs.EntryLemmas.{gets-ack, gets-forward, gets-back, evict-entry, gets-read}
use Rattle.registration_protocol.proofs.laws.one_entry_changes.Goals as goal

pub returns-clause-ack : goal.returns-clause-ack
returns-clause-ack c = gets-ack

pub returns-clause-forward : goal.returns-clause-forward
returns-clause-forward c = gets-forward

pub returns-clause-back : goal.returns-clause-back
returns-clause-back c = gets-back

pub returns-clause-evict : goal.returns-clause-evict
returns-clause-evict c = λ C n word v. evict-entry C n word v (entry_of n word.0) refl

pub returns-clause-read : goal.returns-clause-read
returns-clause-read c = gets-read
