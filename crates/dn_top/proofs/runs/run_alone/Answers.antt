use Rattle.dn_top.proofs.TracedRun.{trace-told}
use Rattle.dn_top.proofs.runs.run_alone.Goals as goal

pub returns-clause-told : goal.returns-clause-told
returns-clause-told c =
    trace-told c.in_ok-checked_of.field-0 c.args.options.now c.args.text.now c.in_ok-machine_run.field-0 c.requires c.in_ok-checked_of.ensures.ok c.in_ok-machine_run.ensures.run.run
    c.in_ok-machine_run.ensures.told
