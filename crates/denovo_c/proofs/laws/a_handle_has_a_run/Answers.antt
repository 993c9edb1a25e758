use Rattle.denovo_c.proofs.Sessions.{handle-runs, handle-ends}
use Rattle.denovo_c.proofs.laws.a_handle_has_a_run.Goals as goal

pub returns-clause-run : goal.returns-clause-run
returns-clause-run c = handle-runs

pub returns-clause-complete : goal.returns-clause-complete
returns-clause-complete c = handle-ends
