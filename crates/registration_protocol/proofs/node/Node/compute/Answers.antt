use Rattle.registration_protocol.specs.Setting.{setting}
use Rattle.registration_protocol.proofs.FitLemmas.{computed-fits}
use Rattle.registration_protocol.proofs.node.Node.compute.Goals as goal

pub returns-clause-fits : goal.returns-clause-fits
returns-clause-fits c =
    computed-fits (setting c.args.context.now) c.args.self.now _ c.instruct_alone.result c.requires.fits c.requires.may c.instruct_alone.ensures.done c.instruct_alone.ensures.left
