use Rattle.std.proofs.Common.{IfOk, IfErr, subst}
use Rattle.region_table.specs.Program.{ProgramParts}
use Rattle.run_report.specs.Texts.{IsStop}
use Rattle.checked_runs.specs.Documents.{IsNoRun, IsRunTold}
use Rattle.checked_runs.proofs.ReplayedRun.{own-machine}
use Rattle.checked_runs.proofs.documents.run_told.Goals as goal

pub run_told_on-run-requires-clause-machine : goal.run_told_on-run-requires-clause-machine
run_told_on-run-requires-clause-machine c = own-machine c.args.checked c.args.trace c.in_ok-machine.machine c.in_ok-machine.ensures

pub returns-clause-told : goal.returns-clause-told
returns-clause-told c =
    subst (λ (P : ProgramParts). IfOk c.run_told_on-run.result (IsRunTold P c.args.trace)) c.in_ok-machine.ensures.program_is c.run_told_on-run.ensures.told

pub returns-clause-stop : goal.returns-clause-stop
returns-clause-stop c =
    subst (λ (P : ProgramParts). IfErr c.run_told_on-run.result (IsStop (IsNoRun P c.args.trace))) c.in_ok-machine.ensures.program_is c.run_told_on-run.ensures.stop
