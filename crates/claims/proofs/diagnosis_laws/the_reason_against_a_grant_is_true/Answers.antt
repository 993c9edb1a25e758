use Rattle.claims.proofs.GrantReasons.{told-illegal, told-short}
use Rattle.claims.proofs.diagnosis_laws.the_reason_against_a_grant_is_true.Goals as goal

pub returns-clause-illegal : goal.returns-clause-illegal
returns-clause-illegal c = told-illegal

pub returns-clause-short : goal.returns-clause-short
returns-clause-short c = told-short
