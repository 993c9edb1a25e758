use Rattle.outcomes_top.proofs.BecauseLemmas.{dependence-is}
use Rattle.outcomes_top.proofs.laws.a_named_register_decides_and_a_named_load_is_made.Goals as goal

pub returns : goal.returns
returns c = dependence-is
