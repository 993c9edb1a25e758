use Rattle.run_agreement.proofs.Interleaved.{interleaving-ends}
use Rattle.run_agreement.proofs.Interleaves.{flat-interleaves}
use Rattle.machine_rules.proofs.AnySize.{well-formed}
use Rattle.run_agreement.proofs.Reaching.{same-runs}
use Rattle.run_agreement.proofs.interleaving_laws.the_machine_does_exactly_what_interleavings_do.Goals as goal

pub returns : goal.returns
returns c C gs e ready = (
  λ i. (same-runs C gs e ready).0 (interleaving-ends C.program C.fuel (well-formed C ready).program.order ready.checked gs e i),
  λ b. flat-interleaves C.program C.fuel gs e ((same-runs C gs e ready).1 b),
)
