use Rattle.std.proofs.Common.{◌++◌, codes, refl, sym, ap, ◌∙◌, arith}
use Rattle.std.proofs.lemmas.List.{append_cancel_left}
use Rattle.text_pieces.specs.Pieces.{newline}
use Rattle.text_pieces.specs.Field.{field}
use Rattle.text_pieces.proofs.Fields.{if-none}
use Rattle.text_pieces.proofs.Forms.{field-next}
use Rattle.claims.specs.Claim.{title}
use Rattle.claims.proofs.Forms.{question-parts}
use Rattle.claims.proofs.head.read_opening.Goals as goal

pub returns-in_err-bytes-clause-none : goal.returns-in_err-bytes-clause-none
returns-in_err-bytes-clause-none c = if-none c.from_residual.result _ (λ o rest st. c.in_err-bytes.ensures.none _ (st.parts ∙ question-parts o rest))

pub returns-in_err-fuel-clause-none : goal.returns-in_err-fuel-clause-none
returns-in_err-fuel-clause-none c =
    if-none c.from_residual-in_err-fuel.result _ (λ o rest st.
    let behind = append_cancel_left title _ _ (sym c.in_ok-bytes.ensures.some ∙ st.parts ∙ question-parts o rest) in
    c.in_err-fuel.ensures.none o.fuel _ (record { fits = st.fits.fuel; parts = behind }))

pub returns-in_err-text-clause-none : goal.returns-in_err-text-clause-none
returns-in_err-text-clause-none c =
    if-none c.from_residual-in_err-text.result _ (λ o rest st.
    let behind = append_cancel_left title _ _ (sym c.in_ok-bytes.ensures.some ∙ st.parts ∙ question-parts o rest) in
    let fuel = field-next (codes "fuel ") 10 1 32768 refl (omega arith) c.in_ok-bytes.bytes.now c.in_ok-fuel.fuel c.in_ok-fuel.bytes.now c.in_ok-fuel.ensures.some o.fuel _ st.fits.fuel behind in
    c.in_err-text.ensures.none o.text rest (record { fits = st.fits.text; parts = fuel.1 }))

pub returns-clause-some : goal.returns-clause-some
returns-clause-some c =
    record {
      fits = record { fuel = c.in_ok-fuel.ensures.some.fits; text = c.in_ok-text.ensures.some.fits };
      parts =
          c.in_ok-bytes.ensures.some
          ∙ ap (λ bs. title ++ bs)
          (c.in_ok-fuel.ensures.some.parts ∙ ap (λ bs. field (codes "fuel ") newline c.in_ok-fuel.fuel ++ bs) c.in_ok-text.ensures.some.parts)
          ∙ sym (question-parts (record { fuel = c.in_ok-fuel.fuel; text = c.in_ok-text.text.now }) c.in_ok-text.rest.now);
    }
