use Rattle.rv_assembler.proofs.BaseLineLemmas.{all-lines}
use Rattle.rv_assembler.proofs.language.a_pseudo_instruction_has_its_base_line.Goals as goal

pub returns : goal.returns
returns c = all-lines
