use Rattle.text_pieces.proofs.Fields.{if-none}
use Rattle.explained_answer.proofs.Ends.{no-outcome}
use Rattle.explained_answer.proofs.words.outcome.Goals as goal

pub returns-in_err-rest-clause-none : goal.returns-in_err-rest-clause-none
returns-in_err-rest-clause-none c =
    if-none c.from_residual.result _ (no-outcome c.args.bytes.now c.in_default.ensures.none c.in_default-behind.ensures.none c.in_default-behind-2.ensures.none c.in_err-rest.ensures.none)
