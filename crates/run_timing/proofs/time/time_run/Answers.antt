use Rattle.run_timing.proofs.Started.{run-of, timing-of}
use Rattle.run_timing.proofs.time.time_run.Goals as goal

pub time_events-requires-clause-run : goal.time_events-requires-clause-run
time_events-requires-clause-run c =
    run-of c.args.checked c.args.shape c.args.fuel c.in_ok-machine.machine c.args.events.now c.in_ok-machine.ensures c.a_machine_is_kept.ensures c.requires.run

pub returns : goal.returns
returns c =
    timing-of c.args.checked c.args.shape c.args.fuel c.in_ok-machine.machine c.args.events.now c.args.ticks.now c.time_events.result c.in_ok-machine.ensures c.a_machine_is_kept.ensures c.time_events.ensures.timing
