use Rattle.sweep_top.proofs.SpreadLemmas.{is-spread}
use Rattle.sweep_top.proofs.laws.the_least_and_the_most_are_of_the_runs.Goals as goal

pub returns : goal.returns
returns c = is-spread
