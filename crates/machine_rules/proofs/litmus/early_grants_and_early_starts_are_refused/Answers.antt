use Rattle.machine_rules.proofs.Refused.{grant-refused, grant-excluded, start-refused, start-apart}
use Rattle.machine_rules.proofs.litmus.early_grants_and_early_starts_are_refused.Goals as goal

pub returns-clause-lock : goal.returns-clause-lock
returns-clause-lock c = grant-refused

pub returns-clause-excluded : goal.returns-clause-excluded
returns-clause-excluded c = grant-excluded

pub returns-clause-barrier : goal.returns-clause-barrier
returns-clause-barrier c = start-refused

pub returns-clause-apart : goal.returns-clause-apart
returns-clause-apart c = start-apart
