use Rattle.rv_assembler.proofs.WellFormed.{source-well-formed}
use Rattle.rv_assembler.proofs.laws.programs_are_well_formed.Goals as goal

pub returns : goal.returns
returns c = source-well-formed
