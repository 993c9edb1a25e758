use Rattle.write_signature.proofs.SignatureLemmas.{holds-empty, holds-other_phase, tag-held}
use Rattle.write_signature.proofs.laws.nothing_is_held_at_first.Goals as goal

pub returns-clause-empty : goal.returns-clause-empty
returns-clause-empty c = holds-empty

pub returns-clause-other_phase : goal.returns-clause-other_phase
returns-clause-other_phase c = holds-other_phase

pub returns-clause-own_phase : goal.returns-clause-own_phase
returns-clause-own_phase c = tag-held
