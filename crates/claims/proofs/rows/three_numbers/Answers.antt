use Rattle.std.proofs.Common.{◌++◌, [], refl, sym, ap, ◌∙◌, arith}
use Rattle.text_pieces.specs.Pieces.{space}
use Rattle.text_pieces.specs.Field.{field}
use Rattle.text_pieces.proofs.Fields.{if-none}
use Rattle.text_pieces.proofs.Forms.{field-next}
use Rattle.claims.proofs.Forms.{three-parts}
use Rattle.claims.proofs.rows.three_numbers.Goals as goal

pub returns-in_err-first-clause-none : goal.returns-in_err-first-clause-none
returns-in_err-first-clause-none c =
    if-none c.from_residual.result _ (λ a b d rest st.
    c.in_err-first.ensures.none a _ (record { fits = st.first_from; parts = st.parts ∙ three-parts c.args.name.now a b d rest }))

pub returns-in_err-second-clause-none : goal.returns-in_err-second-clause-none
returns-in_err-second-clause-none c =
    if-none c.from_residual-in_err-second.result _ (λ a b d rest st.
    let one = field-next c.args.name.now 32 0 4294967295 refl (omega arith) c.args.bytes.now c.in_ok-first.first c.in_ok-first.bytes.now c.in_ok-first.ensures.some a _ st.first_from
    (st.parts ∙ three-parts c.args.name.now a b d rest) in
    c.in_err-second.ensures.none b _ (record { fits = st.second_from; parts = one.1 }))

pub returns-in_err-third-clause-none : goal.returns-in_err-third-clause-none
returns-in_err-third-clause-none c =
    if-none c.from_residual-in_err-third.result _ (λ a b d rest st.
    let one = field-next c.args.name.now 32 0 4294967295 refl (omega arith) c.args.bytes.now c.in_ok-first.first c.in_ok-first.bytes.now c.in_ok-first.ensures.some a _ st.first_from
    (st.parts ∙ three-parts c.args.name.now a b d rest) in
    let two = field-next [] 32 0 4294967295 refl (omega arith) c.in_ok-first.bytes.now c.in_ok-second.second c.in_ok-second.bytes.now c.in_ok-second.ensures.some b _ st.second_from one.1 in
    c.in_err-third.ensures.none d rest (record { fits = st.third_from; parts = two.1 }))

pub returns-clause-some : goal.returns-clause-some
returns-clause-some c =
    record {
      first_from = c.in_ok-first.ensures.some.fits;
      second_from = c.in_ok-second.ensures.some.fits;
      third_from = c.in_ok-third.ensures.some.fits;
      parts =
          c.in_ok-first.ensures.some.parts
          ∙ ap (λ bs. field c.args.name.now space c.in_ok-first.first ++ bs)
          (c.in_ok-second.ensures.some.parts ∙ ap (λ bs. field [] space c.in_ok-second.second ++ bs) c.in_ok-third.ensures.some.parts)
          ∙ sym (three-parts c.args.name.now c.in_ok-first.first c.in_ok-second.second c.in_ok-third.third c.in_ok-third.rest.now);
    }
