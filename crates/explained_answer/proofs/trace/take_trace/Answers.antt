use Rattle.std.proofs.Common.{◌≡◌, ◌++◌, rules}
use Rattle.text_pieces.specs.Parts.{source_part}
use Rattle.explained_answer.proofs.Heads.{head-stands}
use Rattle.explained_answer.proofs.trace.take_trace.Goals as goal

pub taken_by_events-requires-clause-head : goal.taken_by_events-requires-clause-head
taken_by_events-requires-clause-head c =
    let text = c.args.text.now in
    let third : c.in-Some-read_shape.at_text.now ≡ source_part text ++ c.in-Some-behind.at_count.now = search rules in
    head-stands text c.args.answer.now c.in-Some.bytes.now c.in-Some-read_shape.at_text.now c.in-Some-behind.at_count.now c.in-Some-field.field-0-1.now _ c.in-Some-field.count
    c.requires c.in-Some.ensures.some c.in-Some-read_shape.ensures.some third c.in-Some-field.ensures.some
