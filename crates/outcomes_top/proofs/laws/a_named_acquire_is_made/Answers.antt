use Rattle.outcomes_top.proofs.BecauseLemmas.{named-taken}
use Rattle.outcomes_top.proofs.laws.a_named_acquire_is_made.Goals as goal

pub returns : goal.returns
returns c = named-taken
