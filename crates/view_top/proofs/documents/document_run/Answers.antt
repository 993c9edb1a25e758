use Rattle.std.proofs.Common.{IfOk, IfErr, subst}
use Rattle.region_table.specs.Program.{ProgramParts}
use Rattle.run_report.specs.Texts.{IsStop}
use Rattle.checked_runs.specs.Documents.{IsNoRun}
use Rattle.view_top.specs.declared.documents.DocumentRun.{DocumentRun}
use Rattle.view_top.specs.Kept.{IsKeptRun}
use Rattle.view_top.proofs.Kept.{kept-run, viewable, no-run}
use Rattle.view_top.proofs.Machines.{own-machine, both-machine}
use Rattle.view_top.proofs.documents.document_run.Goals as goal

pub made_on-requires-clause-machine : goal.made_on-requires-clause-machine
made_on-requires-clause-machine c = own-machine c.in_ok-checked.checked c.in_ok-trace.trace c.in_ok-machine.machine c.in_ok-machine.ensures

pub returns-clause-kept : goal.returns-clause-kept
returns-clause-kept c =
    kept-run c.args.document.now c.as_slice.result.now c.in_ok-trace.trace c.in_ok-checked.checked c.made_on.result c.in_ok-trace.ensures.ok c.as_slice.ensures c.in_ok-checked.ensures.ok c.in_ok-checked.ensures.checked
    (subst (λ (P : ProgramParts). IfOk c.made_on.result (λ (told : DocumentRun). IsKeptRun P c.in_ok-trace.trace told.kept)) c.in_ok-machine.ensures.program_is c.made_on.ensures.kept)

pub returns-clause-ready : goal.returns-clause-ready
returns-clause-ready c =
    viewable c.args.document.now c.as_slice.result.now c.in_ok-trace.trace c.in_ok-checked.checked c.made_on.result c.in_ok-trace.ensures.ok c.as_slice.ensures c.in_ok-checked.ensures.ok
    c.in_ok-checked.ensures.checked
    (subst (λ (P : ProgramParts). IfOk c.made_on.result (λ (told : DocumentRun). IsKeptRun P c.in_ok-trace.trace told.kept)) c.in_ok-machine.ensures.program_is c.made_on.ensures.kept)

pub returns-clause-machine : goal.returns-clause-machine
returns-clause-machine c =
    both-machine c.as_slice.result.now c.in_ok-trace.trace c.in_ok-checked.checked c.in_ok-machine.machine c.made_on.result c.as_slice.ensures c.in_ok-checked.ensures.ok c.in_ok-checked.ensures.checked c.in_ok-machine.ensures
    c.a_machine_is_kept.ensures c.made_on.ensures.setting c.made_on.ensures.kept

pub returns-clause-stop : goal.returns-clause-stop
returns-clause-stop c =
    no-run c.args.document.now c.as_slice.result.now c.in_ok-trace.trace c.in_ok-checked.checked c.made_on.result c.in_ok-trace.ensures.ok c.as_slice.ensures c.in_ok-checked.ensures.ok c.in_ok-checked.ensures.checked
    (subst (λ (P : ProgramParts). IfErr c.made_on.result (IsStop (IsNoRun P c.in_ok-trace.trace))) c.in_ok-machine.ensures.program_is c.made_on.ensures.stop)
