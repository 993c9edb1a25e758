use Rattle.flat_machine.proofs.StepLemmas.{has-lock}
use Rattle.flat_machine.proofs.running.Running.wish.Goals as goal

pub returns-in-None-clause-lock : goal.returns-in-None-clause-lock
returns-in-None-clause-lock c = has-lock c.args.program.now c.self.inside.decl.now c.self.inside.state _ c.requires c.need.ensures.allowed
