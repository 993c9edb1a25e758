use Rattle.std.proofs.Common.{◌<◌, ◌+◌, ◌∷◌, length, drop, sym, ◌∙◌, ap, arith}
use Rattle.std.proofs.lemmas.List.{take_rest}
use Rattle.std.specs.List.{before_first}
use Rattle.src_text.specs.Byte.{is_newline}
use Rattle.src_text.specs.Line.{cut, numbered}
use Rattle.src_text.specs.declared.line.Line.{Line}
use Rattle.src_text.proofs.LineLemmas.{numbered_more}
use Rattle.src_text.proofs.line.LineReader.next.Goals as goal

pub returns : goal.returns
returns c =
    let text = c.self.inside.text.now in
    let start = c.self.inside.start in
    let number = c.self.inside.number in
    let line = c.first_line-line.result.now in
    let here : start < length text = omega (arith, c.if-self.false) in
    let rest = numbered (number + 1) (start + (length line + 1)) (cut (drop (start + (length line + 1)) text)) in
    sym c.self.view_is
    ∙ numbered_more number start text line here (c.first_line-line.ensures.value ∙ ap (before_first is_newline) (take_rest text start))
    ∙ ap (λ (l : Line). l ∷ rest) (sym c.in_ok-read.ensures)
