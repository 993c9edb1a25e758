use Rattle.std.proofs.Common.{◌++◌, codes, sym, ap, ◌∙◌}
use Rattle.std.proofs.lemmas.List.{append_cancel_left}
use Rattle.text_pieces.specs.Pieces.{space, hexadecimal}
use Rattle.text_pieces.specs.Base16.{IsWord}
use Rattle.text_pieces.proofs.Fields.{if-none}
use Rattle.text_pieces.proofs.Forms.{next}
use Rattle.text_pieces.proofs.Words.{word-one}
use Rattle.explained_answer.proofs.Forms.{address-parts}
use Rattle.explained_answer.proofs.words.address.Goals as goal

pub returns-in_err-at_address-clause-none : goal.returns-in_err-at_address-clause-none
returns-in_err-at_address-clause-none c =
    if-none c.from_residual.result _ (λ a v rest st. c.in_err-at_address.ensures.none _ (st.parts ∙ address-parts a v rest))

pub returns-in_err-address-clause-none : goal.returns-in_err-address-clause-none
returns-in_err-address-clause-none c =
    if-none c.from_residual-in_err-address.result _ (λ a v rest st.
    let front = append_cancel_left (codes "word ") _ _ (sym c.in_ok-at_address.ensures.some ∙ st.parts ∙ address-parts a v rest) in
    c.in_err-address.ensures.none a _ (record { fits = st.address_word; parts = front }))

pub returns-in_err-at_value-clause-none : goal.returns-in_err-at_value-clause-none
returns-in_err-at_value-clause-none c =
    if-none c.from_residual-in_err-at_value.result _ (λ a v rest st.
    let front = append_cancel_left (codes "word ") _ _ (sym c.in_ok-at_address.ensures.some ∙ st.parts ∙ address-parts a v rest) in
    let address = next IsWord hexadecimal word-one c.in_ok-at_address.at_address.now c.in_ok-address.address c.in_ok-address.behind_address.now c.in_ok-address.ensures.some a _ st.address_word front in
    c.in_err-at_value.ensures.none _ address.1)

pub returns-in_err-value-clause-none : goal.returns-in_err-value-clause-none
returns-in_err-value-clause-none c =
    if-none c.from_residual-in_err-value.result _ (λ a v rest st.
    let front = append_cancel_left (codes "word ") _ _ (sym c.in_ok-at_address.ensures.some ∙ st.parts ∙ address-parts a v rest) in
    let address = next IsWord hexadecimal word-one c.in_ok-at_address.at_address.now c.in_ok-address.address c.in_ok-address.behind_address.now c.in_ok-address.ensures.some a _ st.address_word front in
    let middle = append_cancel_left space _ _ (sym c.in_ok-at_value.ensures.some ∙ address.1) in
    c.in_err-value.ensures.none v _ (record { fits = st.value_word; parts = middle }))

pub returns-in_err-rest-clause-none : goal.returns-in_err-rest-clause-none
returns-in_err-rest-clause-none c =
    if-none c.from_residual-in_err-rest.result _ (λ a v rest st.
    let front = append_cancel_left (codes "word ") _ _ (sym c.in_ok-at_address.ensures.some ∙ st.parts ∙ address-parts a v rest) in
    let address = next IsWord hexadecimal word-one c.in_ok-at_address.at_address.now c.in_ok-address.address c.in_ok-address.behind_address.now c.in_ok-address.ensures.some a _ st.address_word front in
    let middle = append_cancel_left space _ _ (sym c.in_ok-at_value.ensures.some ∙ address.1) in
    let value = next IsWord hexadecimal word-one c.in_ok-at_value.at_value.now c.in_ok-value.value c.in_ok-value.behind_value.now c.in_ok-value.ensures.some v _ st.value_word middle in
    c.in_err-rest.ensures.none rest value.1)

pub returns-clause-some : goal.returns-clause-some
returns-clause-some c =
    record {
      address_word = c.in_ok-address.ensures.some.fits;
      value_word = c.in_ok-value.ensures.some.fits;
      parts =
          c.in_ok-at_address.ensures.some
          ∙ ap (λ bs. codes "word " ++ bs)
          (c.in_ok-address.ensures.some.parts
          ∙ ap (λ bs. hexadecimal c.in_ok-address.address ++ bs)
          (c.in_ok-at_value.ensures.some
          ∙ ap (λ bs. space ++ bs)
          (c.in_ok-value.ensures.some.parts ∙ ap (λ bs. hexadecimal c.in_ok-value.value ++ bs) c.in_ok-rest.ensures.some)))
          ∙ sym (address-parts c.in_ok-address.address c.in_ok-value.value c.in_ok-rest.rest.now);
    }
