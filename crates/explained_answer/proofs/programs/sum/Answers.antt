use Rattle.std.proofs.Common.{◌∙◌}
use Rattle.text_pieces.proofs.Fields.{if-none}
use Rattle.explained_answer.proofs.Others.{sum-parts, sum-some, sum-none}
use Rattle.explained_answer.proofs.programs.sum.Goals as goal

pub returns-in_err-at_value-clause-none : goal.returns-in_err-at_value-clause-none
returns-in_err-at_value-clause-none c =
    if-none c.from_residual.result _ (λ v rest st. c.in_err-at_value.ensures.none _ (st.parts ∙ sum-parts v rest))

pub returns-clause-some : goal.returns-clause-some
returns-clause-some c = sum-some c.args.bytes.now c.in_ok-at_value.at_value.now c.in_ok-at_value.ensures.some c.hexadecimal_line.result c.hexadecimal_line.ensures.some

pub returns-clause-none : goal.returns-clause-none
returns-clause-none c = sum-none c.args.bytes.now c.in_ok-at_value.at_value.now c.in_ok-at_value.ensures.some c.hexadecimal_line.result c.hexadecimal_line.ensures.none
