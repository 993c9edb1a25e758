use Rattle.text_pieces.proofs.Fields.{if-none}
use Rattle.run_replay.proofs.Found.{none-event, instr-event, evict-event, arrive-event, handle-event}
use Rattle.run_replay.proofs.events.event.Goals as goal

pub returns-in-Some-clause-some : goal.returns-in-Some-clause-some
returns-in-Some-clause-some c = instr-event c.args.bytes.now c.in-Some.core c.in-Some.rest.now c.in-Some.ensures.some

pub returns-in-Some-two_numbers-clause-some : goal.returns-in-Some-two_numbers-clause-some
returns-in-Some-two_numbers-clause-some c =
    evict-event c.args.bytes.now c.in-Some-two_numbers.core c.in-Some-two_numbers.word c.in-Some-two_numbers.rest.now c.in-Some-two_numbers.ensures.some

pub returns-in-Some-field-clause-some : goal.returns-in-Some-field-clause-some
returns-in-Some-field-clause-some c = arrive-event c.args.bytes.now c.in-Some-field.core c.in-Some-field.rest.now c.in-Some-field.ensures.some

pub returns-in_err-id-clause-none : goal.returns-in_err-id-clause-none
returns-in_err-id-clause-none c =
    if-none c.from_residual.result _
    (none-event c.args.bytes.now c.in_default.ensures.none c.in_default-two_numbers.ensures.none c.in_default-field.ensures.none c.in_err-id.ensures.none)

pub returns-clause-some : goal.returns-clause-some
returns-clause-some c = handle-event c.args.bytes.now c.in_ok-id.id c.in_ok-id.rest.now c.in_ok-id.ensures.some
