use Rattle.registration_protocol.specs.Setting.{setting}
use Rattle.registration_protocol.proofs.FitLemmas.{gets-fits}
use Rattle.registration_protocol.proofs.node.Node.receive_into.Goals as goal

pub returns-clause-fits : goal.returns-clause-fits
returns-clause-fits c = rw c.handle.ensures.node (gets-fits (setting c.args.context.now) c.args.self.now c.args.message.now c.requires.fits)
