use Rattle.run_timing.proofs.Finished.{finishes-of}
use Rattle.run_timing.proofs.Started.{run-of}
use Rattle.run_timing.proofs.finishes.finish_run.Goals as goal

pub finish_events-requires-clause-run : goal.finish_events-requires-clause-run
finish_events-requires-clause-run c =
    run-of c.args.checked c.args.shape c.args.fuel c.in_ok-machine.machine c.args.events.now c.in_ok-machine.ensures c.a_machine_is_kept.ensures c.requires.run

pub returns : goal.returns
returns c =
    finishes-of c.args.checked c.args.shape c.args.fuel c.in_ok-machine.machine c.args.events.now c.args.ticks.now c.finish_events.result c.in_ok-machine.ensures c.a_machine_is_kept.ensures
    c.finish_events.ensures.finishes
