use Rattle.explain_top.proofs.ReadLemmas.{read-enough}
use Rattle.explain_top.proofs.laws.the_bytes_that_are_read_are_enough.Goals as goal

pub returns : goal.returns
returns c = read-enough
