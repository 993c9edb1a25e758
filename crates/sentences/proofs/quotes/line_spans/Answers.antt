use Rattle.std.proofs.Common.{◌≤◌, length, drop, ap, ◌∙◌, arith}
use Rattle.std.proofs.lemmas.List.{take_rest, length-drop}
use Rattle.std.specs.List.{position_or_len}
use Rattle.src_text.specs.Byte.{is_newline}
use Rattle.sentences.proofs.Spans.{one-span}
use Rattle.sentences.proofs.quotes.line_spans.Goals as goal

pub overflow_add-end : goal.overflow_add-end
overflow_add-end c =
    let text = c.args.text.now in
    let start = c.loop-start.start in
    let fits : c.line_length.result ≤ length (drop start text) = rw (← take_rest text start) c.line_length.ensures.within in
    let within = c.loop-start-test.true in
    omega (arith, length-drop start text)

pub overflow_add-start : goal.overflow_add-start
overflow_add-start c =
    let text = c.args.text.now in
    let start = c.loop-start.start in
    let fits : c.line_length.result ≤ length (drop start text) = rw (← take_rest text start) c.line_length.ensures.within in
    let within = c.loop-start-test.true in
    omega (arith, length-drop start text)

pub loop-start-preserved : goal.loop-start-preserved
loop-start-preserved c =
    let text = c.args.text.now in
    let start = c.loop-start.start in
    let fits : c.line_length.result ≤ length (drop start text) = rw (← take_rest text start) c.line_length.ensures.within in
    let more = one-span text c.loop-start.spans start c.line_length.result c.loop-start.invariant c.loop-start-test.true fits
    (c.line_length.ensures.place ∙ ap (position_or_len is_newline) (take_rest text start)) in
    rw c.in_ok-push.ensures.ok more
