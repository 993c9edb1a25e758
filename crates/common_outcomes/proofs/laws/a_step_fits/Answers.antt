use Rattle.common_outcomes.proofs.Steps.{step-fits}
use Rattle.common_outcomes.proofs.laws.a_step_fits.Goals as goal

pub returns : goal.returns
returns c = step-fits
