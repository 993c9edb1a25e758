use Rattle.dn_top.proofs.TracedRun.{trace-told}
use Rattle.dn_top.proofs.workers.run_by_workers.Goals as goal

pub returns-clause-told : goal.returns-clause-told
returns-clause-told g c =
    trace-told c.in_ok-checked.checked c.args.options.now c.args.text.now c.in_ok-machine_run_by_workers.field-0 c.requires.limits c.in_ok-checked.ensures.ok
    c.in_ok-machine_run_by_workers.ensures.run.run c.in_ok-machine_run_by_workers.ensures.told
