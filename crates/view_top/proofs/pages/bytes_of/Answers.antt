use Rattle.std.proofs.Common.{◌≤◌, List, length, sym, subst}
use Rattle.message_net.specs.declared.event.Event.{Event}
use Rattle.machine_rules.specs.Runs.{IsRun}
use Rattle.view_top.proofs.Machines.{page-made}
use Rattle.view_top.proofs.pages.bytes_of.Goals as goal

pub page_text-requires-clause-run : goal.page_text-requires-clause-run
page_text-requires-clause-run c = subst (λ (es : List Event). IsRun c.begin_again.new.machine.state es) (sym c.as_slice.ensures) c.in_ok-begin_again.ensures.run

pub page_text-requires-clause-few : goal.page_text-requires-clause-few
page_text-requires-clause-few c = subst (λ (es : List Event). length es ≤ 25169664) (sym c.as_slice.ensures) c.requires.kept.few

pub returns : goal.returns
returns c =
    page-made c.args.kept.now c.begin_again.new.machine c.as_slice.result.now c.args.page.now c.page_text.result c.in_ok-begin_again.ensures.machine c.in_ok-begin_again.ensures.initial c.as_slice.ensures
    c.page_text.ensures.text
