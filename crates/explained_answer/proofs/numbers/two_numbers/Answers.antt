use Rattle.std.proofs.Common.{◌++◌, refl, sym, ap, ◌∙◌, arith}
use Rattle.text_pieces.specs.Pieces.{space}
use Rattle.text_pieces.specs.Field.{field}
use Rattle.text_pieces.proofs.Fields.{if-none}
use Rattle.text_pieces.proofs.Forms.{field-next}
use Rattle.explained_answer.proofs.Forms.{two-parts}
use Rattle.explained_answer.proofs.numbers.two_numbers.Goals as goal

pub returns-in_err-one-clause-none : goal.returns-in_err-one-clause-none
returns-in_err-one-clause-none c =
    if-none c.from_residual.result _ (λ a b rest st.
    c.in_err-one.ensures.none a _ (record { fits = st.first_from; parts = st.parts ∙ two-parts c.args.first.now c.args.second.now c.args.stop a b rest }))

pub returns-in_err-other-clause-none : goal.returns-in_err-other-clause-none
returns-in_err-other-clause-none c =
    if-none c.from_residual-in_err-other.result _ (λ a b rest st.
    let one = field-next c.args.first.now 32 0 4294967295 refl (omega arith) c.args.bytes.now c.in_ok-one.one c.in_ok-one.behind.now c.in_ok-one.ensures.some a _ st.first_from
    (st.parts ∙ two-parts c.args.first.now c.args.second.now c.args.stop a b rest) in
    c.in_err-other.ensures.none b rest (record { fits = st.second_from; parts = one.1 }))

pub returns-clause-some : goal.returns-clause-some
returns-clause-some c =
    record {
      first_from = c.in_ok-one.ensures.some.fits;
      second_from = c.in_ok-other.ensures.some.fits;
      parts =
          c.in_ok-one.ensures.some.parts ∙ ap (λ bs. field c.args.first.now space c.in_ok-one.one ++ bs) c.in_ok-other.ensures.some.parts
          ∙ sym (two-parts c.args.first.now c.args.second.now c.args.stop c.in_ok-one.one c.in_ok-other.other c.in_ok-other.rest.now);
    }
