use Rattle.std.proofs.Common.{◌++◌, [], refl, sym, ap, ◌∙◌, arith}
use Rattle.text_pieces.specs.Pieces.{space, hexadecimal}
use Rattle.text_pieces.specs.Base16.{IsWord}
use Rattle.text_pieces.specs.Field.{field}
use Rattle.text_pieces.proofs.Fields.{if-none}
use Rattle.text_pieces.proofs.Forms.{field-next, next}
use Rattle.text_pieces.proofs.Words.{word-one}
use Rattle.claims.proofs.Forms.{load-parts}
use Rattle.claims.proofs.rows.load.Goals as goal

pub returns-in_err-word-clause-none : goal.returns-in_err-word-clause-none
returns-in_err-word-clause-none c =
    if-none c.from_residual.result _ (λ s rest st. c.in_err-word.ensures.none s.word.0 _ (record { fits = st.fits.word; parts = st.parts ∙ load-parts s rest }))

pub returns-in_err-value-clause-none : goal.returns-in_err-value-clause-none
returns-in_err-value-clause-none c =
    if-none c.from_residual-in_err-value.result _ (λ s rest st.
    let word = field-next [] 32 0 4294967295 refl (omega arith) c.args.bytes.now c.in_ok-word.word c.in_ok-word.bytes.now c.in_ok-word.ensures.some s.word.0 _ st.fits.word (st.parts ∙ load-parts s rest) in
    c.in_err-value.ensures.none s.value _ (record { fits = st.fits.value; parts = word.1 }))

pub returns-in_err-rest-clause-none : goal.returns-in_err-rest-clause-none
returns-in_err-rest-clause-none c =
    if-none c.from_residual-in_err-rest.result _ (λ s rest st.
    let word = field-next [] 32 0 4294967295 refl (omega arith) c.args.bytes.now c.in_ok-word.word c.in_ok-word.bytes.now c.in_ok-word.ensures.some s.word.0 _ st.fits.word (st.parts ∙ load-parts s rest) in
    let value = next IsWord hexadecimal word-one c.in_ok-word.bytes.now c.in_ok-value.value c.in_ok-value.bytes.now c.in_ok-value.ensures.some s.value _ st.fits.value word.1 in
    c.in_err-rest.ensures.none rest value.1)

pub returns-clause-some : goal.returns-clause-some
returns-clause-some c =
    record {
      fits = record { word = c.in_ok-word.ensures.some.fits; value = c.in_ok-value.ensures.some.fits };
      parts =
          c.in_ok-word.ensures.some.parts
          ∙ ap (λ bs. field [] space c.in_ok-word.word ++ bs)
          (c.in_ok-value.ensures.some.parts ∙ ap (λ bs. hexadecimal c.in_ok-value.value ++ bs) c.in_ok-rest.ensures.some)
          ∙ sym (load-parts (record { word = record { 0 = c.in_ok-word.word }; value = c.in_ok-value.value }) c.in_ok-rest.rest.now);
    }
