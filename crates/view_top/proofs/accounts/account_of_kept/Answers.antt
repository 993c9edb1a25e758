use Rattle.std.proofs.Common.{List, length, sym, ap, subst, arith}
use Rattle.message_net.specs.declared.event.Event.{Event}
use Rattle.machine_rules.specs.Runs.{IsRun}
use Rattle.view_top.proofs.Machines.{stays-ok, account-made}
use Rattle.view_top.proofs.accounts.account_of_kept.Goals as goal

pub count-requires-clause-run : goal.count-requires-clause-run
count-requires-clause-run c = subst (λ (es : List Event). IsRun c.begin_again.new.machine.state es) (sym c.as_slice.ensures) c.in_ok-begin_again.ensures.run

pub count-requires-clause-few : goal.count-requires-clause-few
count-requires-clause-few c =
    omega (arith, c.in_ok-begin_again.ensures.made, ap (λ (es : List Event). length es) c.as_slice.ensures, c.requires.kept.few)

pub returns-clause-account : goal.returns-clause-account
returns-clause-account c =
    account-made c.args.kept.now c.begin_again.new.machine c.as_slice.result.now c.args.by c.count.result c.in_ok-begin_again.ensures.machine c.in_ok-begin_again.ensures.initial c.as_slice.ensures
    c.count.ensures.account

pub returns-clause-machine : goal.returns-clause-machine
returns-clause-machine c = stays-ok c.args.kept.now c.begin_again.new.machine c.count.new.machine c.count.result c.count.ensures.setting c.in_ok-begin_again.ensures.machine
