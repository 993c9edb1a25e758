use Rattle.dn_top.proofs.TraceAgain.{replays-as_report, replays-as_run}
use Rattle.dn_top.proofs.laws.a_trace_replays_as_its_run.Goals as goal

pub returns-clause-report : goal.returns-clause-report
returns-clause-report c = λ o p text document run is e. replays-as_report o text document run is e

pub returns-clause-run : goal.returns-clause-run
returns-clause-run c = λ o p text document answer one is also. replays-as_run o text document answer one is also
