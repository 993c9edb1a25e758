use Rattle.claims.proofs.DiagnosisLemmas.{last-stored, never-stored}
use Rattle.claims.proofs.diagnosis_laws.no_store_comes_between.Goals as goal

pub returns-clause-stored : goal.returns-clause-stored
returns-clause-stored c = last-stored

pub returns-clause-never : goal.returns-clause-never
returns-clause-never c = never-stored
