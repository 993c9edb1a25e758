use Rattle.page_data.proofs.Runs.{setting_after}
use Rattle.page_data.proofs.events.step.Goals as goal

pub returns-clause-setting : goal.returns-clause-setting
returns-clause-setting c = setting_after c.args.machine.now.state c.step.new.self.state c.args.event c.in_ok-step.ensures.state
