use Rattle.write_signature.proofs.SignatureLemmas.{tag-in_phase, holds-in_phase}
use Rattle.write_signature.proofs.laws.a_phase_takes_over_its_own_writes.Goals as goal

pub returns-clause-tag : goal.returns-clause-tag
returns-clause-tag c = tag-in_phase

pub returns-clause-held : goal.returns-clause-held
returns-clause-held c = holds-in_phase
