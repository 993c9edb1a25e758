use Rattle.write_signature.proofs.SignatureLemmas.{tag-empty, tag-inserted, tag-joined}
use Rattle.write_signature.proofs.laws.tags_are_kept.Goals as goal

pub returns-clause-empty : goal.returns-clause-empty
returns-clause-empty c = tag-empty

pub returns-clause-inserted : goal.returns-clause-inserted
returns-clause-inserted c = tag-inserted

pub returns-clause-joined : goal.returns-clause-joined
returns-clause-joined c = tag-joined
