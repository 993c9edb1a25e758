use Rattle.std.proofs.Common.{◌≤◌, length, drop, sym, ap, ◌∙◌, arith}
use Rattle.std.proofs.lemmas.List.{take_rest, length-drop}
use Rattle.std.specs.List.{before_first}
use Rattle.src_text.specs.Byte.{is_newline}
use Rattle.text_places.proofs.CutLemmas.{left-here, left-more}
use Rattle.text_places.proofs.lines.line_text.Goals as goal

pub returns-then-number-line : goal.returns-then-number-line
returns-then-number-line c =
    let text = c.args.text.now in
    let start = c.loop-start.start in
    left-here text c.args.line c.loop-start.number start c.first_line-bytes.result.now c.loop-start-test.true (c.first_line-bytes.ensures.value ∙ ap (before_first is_newline) (take_rest text start)) (sym c.if-number-line.true) c.loop-start.invariant.3

pub loop-start-preserved : goal.loop-start-preserved
loop-start-preserved c =
    let text = c.args.text.now in
    let start = c.loop-start.start in
    let line = c.first_line-bytes.result.now in
    let fits : length line ≤ length (drop start text) = rw (← take_rest text start) c.first_line-bytes.ensures.within in
    let number = c.loop-start.invariant.1 in
    let here = c.loop-start-test.true in (
      omega arith,
      omega arith,
      omega (arith, length-drop start text),
      left-more text c.args.line c.loop-start.number start line c.loop-start-test.true (c.first_line-bytes.ensures.value ∙ ap (before_first is_newline) (take_rest text start)) (λ e. c.if-number-line.false (sym e)) c.loop-start.invariant.3,
    )
