use Rattle.registration_protocol.specs.Setting.{setting}
use Rattle.registration_protocol.proofs.FitLemmas.{evict-fits}
use Rattle.registration_protocol.proofs.node.Node.evict_into.Goals as goal

pub returns-clause-fits : goal.returns-clause-fits
returns-clause-fits c = rw c.give_up.ensures.node (evict-fits (setting c.args.context.now) c.args.self.now c.args.word c.requires.fits)
