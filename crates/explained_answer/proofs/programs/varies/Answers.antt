use Rattle.std.proofs.Common.{◌+◌, ◌*◌, ◌++◌, codes, sym, ap, ◌∙◌, arith}
use Rattle.std.proofs.lemmas.List.{append_cancel_left}
use Rattle.text_pieces.proofs.Fields.{if-none}
use Rattle.explained_answer.specs.Parts.{hexadecimal_line}
use Rattle.explained_answer.proofs.OneWay.{word-line-one}
use Rattle.explained_answer.proofs.Others.{varies-parts}
use Rattle.explained_answer.proofs.programs.varies.Goals as goal

pub returns-in_err-at_address-clause-none : goal.returns-in_err-at_address-clause-none
returns-in_err-at_address-clause-none c =
    if-none c.from_residual.result _ (λ w rest st. c.in_err-at_address.ensures.none _ (st.parts ∙ varies-parts w rest))

pub returns-in_err-address-clause-none : goal.returns-in_err-address-clause-none
returns-in_err-address-clause-none c =
    if-none c.from_residual-in_err-address.result _ (λ w rest st.
    let fits = st.fits in
    c.in_err-address.ensures.none (268435456 + 4 * w) rest
    (record { fits = omega (arith, fits); parts = append_cancel_left (codes "varies ") _ _ (sym c.in_ok-at_address.ensures.some ∙ st.parts ∙ varies-parts w rest) }))

pub returns-in_err-word-clause-none : goal.returns-in_err-word-clause-none
returns-in_err-word-clause-none c =
    if-none c.from_residual-in_err-word.result _ (λ w rest st.
    let found = c.in_ok-address.ensures.some in
    let fits = st.fits in
    let parts = append_cancel_left (codes "varies ") _ _ (sym c.in_ok-at_address.ensures.some ∙ st.parts ∙ varies-parts w rest) in
    let same = word-line-one c.in_ok-address.address (268435456 + 4 * w) c.in_ok-address.rest.now rest found.fits (omega (arith, fits)) (sym found.parts ∙ parts) in
    c.in_err-word.ensures.none w fits same.0 (omega arith))

pub returns-clause-some : goal.returns-clause-some
returns-clause-some c =
    let found = c.in_ok-address.ensures.some in
    let word = c.in_ok-word.ensures.some in
    let rest = c.in_ok-address.rest.now in
    record {
      fits = word.1;
      parts =
          c.in_ok-at_address.ensures.some ∙ ap (λ xs. codes "varies " ++ xs) (found.parts ∙ ap (λ n. hexadecimal_line n ++ rest) word.0)
          ∙ sym (varies-parts c.in_ok-word.word rest);
    }
