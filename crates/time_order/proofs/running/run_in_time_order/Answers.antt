use Rattle.time_order.proofs.Turns.{record-of, setting-stays}
use Rattle.time_order.proofs.running.run_in_time_order.Goals as goal

pub returns-clause-run : goal.returns-clause-run
returns-clause-run c =
    record-of c.args.ticks.now c.args.network.now c.args.machine.now.state.setting c.args.machine.now.state c.run_events.new.machine.state c.run_events.new.log c.in_ok-ending.ending c.record.result
    c.a_machine_is_kept.ensures.left.ready c.requires.initial c.in_ok-run_events.ensures.run c.in_ok-ending.ensures c.record.ensures

pub returns-clause-setting : goal.returns-clause-setting
returns-clause-setting c =
    setting-stays c.args.ticks.now c.args.network.now c.args.machine.now.state c.run_events.new.machine.state c.run_events.new.log c.in_ok-run_events.ensures.run
