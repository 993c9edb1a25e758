use Rattle.claims.proofs.DiagnosisLemmas.{earliest-first}
use Rattle.claims.proofs.diagnosis_laws.the_earliest_wrong_load_is_the_first.Goals as goal

pub returns : goal.returns
returns c = earliest-first
