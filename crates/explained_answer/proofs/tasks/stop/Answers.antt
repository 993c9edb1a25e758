use Rattle.text_pieces.proofs.Fields.{if-none}
use Rattle.explained_answer.proofs.Ends.{no-stop}
use Rattle.explained_answer.proofs.tasks.stop.Goals as goal

pub returns-in_err-kind-clause-none : goal.returns-in_err-kind-clause-none
returns-in_err-kind-clause-none c = if-none c.from_residual.result _ (no-stop c.args.bytes.now c.in_default.ensures.none c.in_default-field.ensures.none c.in_default-two_numbers.ensures.none c.in_err-kind.ensures.none)
