use Rattle.std.proofs.Common.{◌≤◌, List, length, sym, subst}
use Rattle.message_net.specs.declared.event.Event.{Event}
use Rattle.machine_rules.specs.Runs.{IsRun}
use Rattle.view_top.proofs.Machines.{data-made}
use Rattle.view_top.proofs.run_data.bytes_of.Goals as goal

pub run_data_text-requires-clause-run : goal.run_data_text-requires-clause-run
run_data_text-requires-clause-run c = subst (λ (es : List Event). IsRun c.begin_again.new.machine.state es) (sym c.as_slice.ensures) c.in_ok-begin_again.ensures.run

pub run_data_text-requires-clause-few : goal.run_data_text-requires-clause-few
run_data_text-requires-clause-few c = subst (λ (es : List Event). length es ≤ 25169664) (sym c.as_slice.ensures) c.requires.kept.few

pub returns : goal.returns
returns c =
    data-made c.args.kept.now c.begin_again.new.machine c.as_slice.result.now c.args.told.now c.run_data_text.result c.in_ok-begin_again.ensures.machine c.in_ok-begin_again.ensures.initial c.as_slice.ensures
    c.run_data_text.ensures.text
