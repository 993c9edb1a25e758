use Rattle.flat_machine.proofs.StartLaws.{start-alone}
use Rattle.flat_machine.proofs.laws.first_segments_start_from_one_memory.Goals as goal

pub returns : goal.returns
returns c = start-alone
