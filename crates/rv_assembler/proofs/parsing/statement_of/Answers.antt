use Rattle.std.proofs.Common.{◌≡◌, true, Some, refl, sym, ◌∙◌}
use Rattle.rv_assembler.specs.Shape.{knows_word, kind_for}
use Rattle.rv_assembler.proofs.RowLemmas.{kind_known}
use Rattle.rv_assembler.proofs.parsing.statement_of.Goals as goal

pub returns-in-Some : goal.returns-in-Some
returns-in-Some c =
    let found : kind_for c.args.version_2 c.args.text.now c.args.word.now c.args.operands.now ≡ Some c.in-Some.kind = sym c.kind.ensures ∙ c.in-Some.is in
    let known : knows_word c.args.version_2 c.args.word.now ≡ true = kind_known c.args.version_2 c.args.text.now c.args.word.now c.args.operands.now c.in-Some.kind found in
    rw (known, found, c.statement_for.ensures) refl
