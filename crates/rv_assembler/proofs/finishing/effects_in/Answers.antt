use Rattle.std.proofs.Common.{rules}
use Rattle.rv_assembler.proofs.finishing.effects_in.Goals as goal

pub returns : goal.returns
returns c = search rules
