use Rattle.text_pieces.proofs.Fields.{if-none}
use Rattle.run_replay.proofs.Found.{none-mail, core-mail, bank-mail, keeper-mail}
use Rattle.run_replay.proofs.events.mail.Goals as goal

pub returns-in-Some-clause-some : goal.returns-in-Some-clause-some
returns-in-Some-clause-some c = core-mail c.args.bytes.now c.in-Some.core c.in-Some.number c.in-Some.rest.now c.in-Some.ensures.some

pub returns-in-Some-two_numbers-clause-some : goal.returns-in-Some-two_numbers-clause-some
returns-in-Some-two_numbers-clause-some c =
    bank-mail c.args.bytes.now c.in-Some-two_numbers.bank c.in-Some-two_numbers.number c.in-Some-two_numbers.rest.now c.in-Some-two_numbers.ensures.some

pub returns-in_err-number-clause-none : goal.returns-in_err-number-clause-none
returns-in_err-number-clause-none c =
    if-none c.from_residual.result _ (none-mail c.args.bytes.now c.in_default.ensures.none c.in_default-two_numbers.ensures.none c.in_err-number.ensures.none)

pub returns-clause-some : goal.returns-clause-some
returns-clause-some c = keeper-mail c.args.bytes.now c.in_ok-number.number c.in_ok-number.rest.now c.in_ok-number.ensures.some
