use Rattle.write_signature.proofs.SignatureLemmas.{inserted_holds, inserted_keeps}
use Rattle.write_signature.proofs.laws.insert_covers.Goals as goal

pub returns-clause-inserted : goal.returns-clause-inserted
returns-clause-inserted c = inserted_holds

pub returns-clause-kept : goal.returns-clause-kept
returns-clause-kept c = inserted_keeps
