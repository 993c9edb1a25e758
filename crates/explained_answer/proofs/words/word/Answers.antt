use Rattle.std.proofs.Common.{◌+◌, ◌*◌, ◌++◌, sym, ap, ◌∙◌, arith}
use Rattle.text_pieces.proofs.Fields.{if-none}
use Rattle.explained_answer.specs.AnswerLines.{address_line}
use Rattle.explained_answer.proofs.Forms.{address-next, word-is, word-stands}
use Rattle.explained_answer.proofs.words.word.Goals as goal

pub returns-in_err-address-clause-none : goal.returns-in_err-address-clause-none
returns-in_err-address-clause-none c =
    if-none c.from_residual.result _ (λ w v rest s is. c.in_err-address.ensures.none (268435456 + 4 * w) v rest (word-stands c.args.bytes.now w v rest s is))

pub returns-in_err-word-clause-none : goal.returns-in_err-word-clause-none
returns-in_err-word-clause-none c =
    if-none c.from_residual-in_err-word.result _ (λ w v rest s is.
    let one = address-next c.args.bytes.now c.in_ok-address.address c.in_ok-address.value c.in_ok-address.rest.now c.in_ok-address.ensures.some (268435456 + 4 * w) v rest (word-stands c.args.bytes.now w v rest s is) in
    c.in_err-word.ensures.none w s.word_fits one.0 (omega (arith, one.1, s.some)))

pub returns-clause-some : goal.returns-clause-some
returns-clause-some c =
    let found = c.in_ok-address.ensures.some in
    let word = c.in_ok-word.ensures.some in (
      record { word_fits = word.1; value_fits = found.value_word; some = word.2 },
      found.parts ∙ ap (λ xs. xs ++ c.in_ok-address.rest.now) (ap (λ a. address_line a c.in_ok-address.value) word.0 ∙ sym (word-is c.in_ok-word.word c.in_ok-address.value word.2)),
    )
