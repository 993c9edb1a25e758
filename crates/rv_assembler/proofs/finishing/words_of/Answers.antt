use Rattle.rv_assembler.specs.ClaimRows.{claim_row, IsSomeWithin}
use Rattle.std.proofs.Common.{sym, subst}
use Rattle.std.specs.List.{All}
use Rattle.rv_assembler.proofs.ClaimRowLemmas.{row-within}
use Rattle.rv_assembler.proofs.finishing.words_of.Goals as goal

pub words_in-requires-clause-some : goal.words_in-requires-clause-some
words_in-requires-clause-some c =
    subst (All (IsSomeWithin c.args.words)) (sym c.intervals_of.ensures) (row-within c.args.words c.args.rows.now (claim_row c.args.task.phase c.args.task.core c.args.usage) c.requires.rows)
