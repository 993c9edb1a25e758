use Rattle.outcomes_top.proofs.ReadLemmas.{read-enough}
use Rattle.outcomes_top.proofs.laws.the_bytes_that_are_read_are_enough.Goals as goal

pub returns : goal.returns
returns c = read-enough
