use Rattle.run_agreement.proofs.Interleaved.{interleaving-ends}
use Rattle.run_agreement.proofs.Interleaves.{flat-interleaves}
use Rattle.run_agreement.proofs.interleaving_laws.the_flat_machine_does_exactly_what_interleavings_do.Goals as goal

pub returns : goal.returns
returns c P fuel gs e rising checked = (flat-interleaves P fuel gs e, interleaving-ends P fuel rising checked gs e)
