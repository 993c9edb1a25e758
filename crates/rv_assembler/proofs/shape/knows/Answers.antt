use Rattle.rv_assembler.proofs.RowLemmas.{known-from}
use Rattle.rv_assembler.proofs.shape.knows.Goals as goal

pub returns : goal.returns
returns c = rw (c.knows_in.ensures, c.rows_from.ensures, c.first_byte.ensures) (known-from c.args.version_2 c.args.word.now)
