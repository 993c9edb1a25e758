use Rattle.rv_assembler.proofs.DeclaredLemmas.{source-declared}
use Rattle.rv_assembler.proofs.laws.names_may_be_declared.Goals as goal

pub returns : goal.returns
returns c = source-declared
