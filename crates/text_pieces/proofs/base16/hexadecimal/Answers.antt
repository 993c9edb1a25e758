use Rattle.std.proofs.Common.{◌≡◌, ◌++◌, ◌≤◌, length, sym, ap, ◌∙◌, subst, arith}
use Rattle.text_pieces.specs.Pieces.{hexadecimal}
use Rattle.text_pieces.proofs.Fields.{if-none}
use Rattle.text_pieces.proofs.Words.{word-read, word-length}
use Rattle.text_pieces.specs.Base16.{seems_word}
use Rattle.text_pieces.proofs.base16.hexadecimal.Goals as goal

pub returns-then-bytes-lt10-clause-none : goal.returns-then-bytes-lt10-clause-none
returns-then-bytes-lt10-clause-none c = λ n rest st.
    let some : 10 ≤ length c.args.bytes.now = subst (λ bs. 10 ≤ length bs) (sym st.parts) (word-length n rest) in
    omega arith

pub returns-in_err-rest-clause-none : goal.returns-in_err-rest-clause-none
returns-in_err-rest-clause-none c =
    if-none c.from_residual.result _ (λ n rest st.
    let same : c.number_of-number.result ≡ n = c.number_of-number.ensures ∙ ap seems_word st.parts ∙ word-read n rest st.fits in
    c.in_err-rest.ensures.none rest (st.parts ∙ ap (λ k. hexadecimal k ++ rest) (sym same) ∙ ap (λ t. t ++ rest) (sym c.to_hexadecimal.ensures)))
