use Rattle.std.proofs.Common.{ap, subst, sym, ◌∙◌}
use Rattle.run_chart.specs.declared.drawing.Drawing.{Drawing}
use Rattle.run_chart.specs.Mails.{AreNotedFor}
use Rattle.run_chart.proofs.Begun.{rows-setting}
use Rattle.run_chart.proofs.Noted.{unknown-ids}
use Rattle.run_chart.proofs.drawing.Drawing.draw.Goals as goal

pub add_rows-requires-clause-sent : goal.add_rows-requires-clause-sent
add_rows-requires-clause-sent c =
    subst (λ (d : Drawing). AreNotedFor d.sent d.machine.state.mails) (sym c.in_ok-begin.ensures) (unknown-ids c.pass.new.machine.state.mails)

pub returns-clause-setting : goal.returns-clause-setting
returns-clause-setting c =
    ap (λ (d : Drawing). d.machine.state.setting) c.in_ok-add_rows.ensures.rows ∙ rows-setting c.args.chain.now c.begin.new.self c.first_of-2.result.0.now
    ∙ ap (λ (d : Drawing). d.machine.state.setting) c.in_ok-begin.ensures ∙ c.in_ok-pass.ensures.setting
