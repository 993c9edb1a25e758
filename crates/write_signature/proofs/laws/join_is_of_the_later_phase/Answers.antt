use Rattle.write_signature.proofs.SignatureLemmas.{joined-later, joined-earlier}
use Rattle.write_signature.proofs.laws.join_is_of_the_later_phase.Goals as goal

pub returns-clause-first : goal.returns-clause-first
returns-clause-first c = joined-later

pub returns-clause-second : goal.returns-clause-second
returns-clause-second c = joined-earlier
