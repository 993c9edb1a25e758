use Rattle.text_pieces.proofs.Fields.{if-none}
use Rattle.explained_answer.proofs.Others.{no-open}
use Rattle.explained_answer.proofs.line_parsing.read_open.Goals as goal

pub returns-in_err-phase-clause-none : goal.returns-in_err-phase-clause-none
returns-in_err-phase-clause-none c =
    if-none c.from_residual.result _
    (no-open c.args.bytes.now c.in_default.ensures.none c.in_default-place_line.ensures.none c.in_default-three_numbers.ensures.none c.in_err-phase.ensures.none)
