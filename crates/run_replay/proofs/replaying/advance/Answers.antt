use Rattle.run_replay.proofs.UnderWay.{tried-setting}
use Rattle.run_replay.proofs.replaying.advance.Goals as goal

pub returns-clause-setting : goal.returns-clause-setting
returns-clause-setting c = tried-setting c.args.machine.now.state c.try_step.new.self.state c.args.event c.in_ok-actor.field-0 c.in_ok-actor.ensures.tried
