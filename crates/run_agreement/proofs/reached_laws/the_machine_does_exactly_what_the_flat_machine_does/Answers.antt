use Rattle.run_agreement.proofs.Reaching.{same-grants, same-runs, same-endings}
use Rattle.run_agreement.proofs.reached_laws.the_machine_does_exactly_what_the_flat_machine_does.Goals as goal

pub returns-clause-grants : goal.returns-clause-grants
returns-clause-grants c = same-grants

pub returns-clause-runs : goal.returns-clause-runs
returns-clause-runs c = same-runs

pub returns-clause-endings : goal.returns-clause-endings
returns-clause-endings c = same-endings
