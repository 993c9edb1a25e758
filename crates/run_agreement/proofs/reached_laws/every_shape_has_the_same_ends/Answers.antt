use Rattle.run_agreement.proofs.Reaching.{any-shape}
use Rattle.run_agreement.proofs.reached_laws.every_shape_has_the_same_ends.Goals as goal

pub returns : goal.returns
returns c = any-shape
