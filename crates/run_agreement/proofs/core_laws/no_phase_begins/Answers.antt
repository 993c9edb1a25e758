use Rattle.run_agreement.proofs.CoreByCore.{last-phase, unfinished-phase}
use Rattle.run_agreement.proofs.core_laws.no_phase_begins.Goals as goal

pub returns-clause-last : goal.returns-clause-last
returns-clause-last c = last-phase

pub returns-clause-unfinished : goal.returns-clause-unfinished
returns-clause-unfinished c = unfinished-phase
