use Rattle.page_data.proofs.Runs.{setting_after, if-ok}
use Rattle.page_data.proofs.events.make_row.Goals as goal

pub returns-in-Some-clause-setting : goal.returns-in-Some-clause-setting
returns-in-Some-clause-setting c =
    let state = rw c.in-Some.is at c.in_ok-made.ensures.state in
    if-ok c.push_row.result _ (setting_after c.args.machine.now.state c.make.new.machine.state c.args.event state)
