use Rattle.registration_protocol.specs.Setting.{setting}
use Rattle.registration_protocol.proofs.FitLemmas.{instr-fits}
use Rattle.registration_protocol.proofs.node.Node.other_instr_into.Goals as goal

pub returns-clause-fits : goal.returns-clause-fits
returns-clause-fits c = rw c.by_need.ensures.node (instr-fits (setting c.args.context.now) c.args.self.now c.requires.fits c.requires.may)
