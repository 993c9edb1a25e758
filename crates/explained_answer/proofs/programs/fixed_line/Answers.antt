use Rattle.text_pieces.proofs.Fields.{if-none}
use Rattle.explained_answer.proofs.Others.{no-fixed}
use Rattle.explained_answer.proofs.programs.fixed_line.Goals as goal

pub returns-in_err-rest-clause-none : goal.returns-in_err-rest-clause-none
returns-in_err-rest-clause-none c =
    if-none c.from_residual.result _ (no-fixed c.args.bytes.now c.in_default.ensures.none c.in_default-behind.ensures.none c.in_default-behind-2.ensures.none c.in_default-behind-3.ensures.none c.in_default-behind-4.ensures.none c.in_err-rest.ensures.none)
