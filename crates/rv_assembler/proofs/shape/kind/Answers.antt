use Rattle.rv_assembler.proofs.RowLemmas.{kind-from}
use Rattle.rv_assembler.proofs.shape.kind.Goals as goal

pub returns : goal.returns
returns c = rw (c.kind_in.ensures, c.rows_from.ensures, c.first_byte.ensures) (kind-from c.args.version_2 c.args.text.now c.args.word.now c.args.operands.now)
