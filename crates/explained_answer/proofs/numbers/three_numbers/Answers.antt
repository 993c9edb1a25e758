use Rattle.std.proofs.Common.{◌++◌, [], refl, sym, ap, ◌∙◌}
use Rattle.text_pieces.proofs.Fields.{if-none}
use Rattle.explained_answer.specs.Parts.{pair_fields}
use Rattle.explained_answer.proofs.Forms.{two-next}
use Rattle.explained_answer.proofs.Others.{three-parts}
use Rattle.explained_answer.proofs.numbers.three_numbers.Goals as goal

pub returns-in_err-one-clause-none : goal.returns-in_err-one-clause-none
returns-in_err-one-clause-none c =
    if-none c.from_residual.result _ (λ a b d rest st.
    c.in_err-one.ensures.none a b _ (record { first_from = st.first_from; second_from = st.second_from; parts = st.parts ∙ three-parts c.args.name.now a b d rest }))

pub returns-in_err-three-clause-none : goal.returns-in_err-three-clause-none
returns-in_err-three-clause-none c =
    if-none c.from_residual-in_err-three.result _ (λ a b d rest st.
    let head = two-next c.args.name.now [] 32 refl c.args.bytes.now c.in_ok-one.one c.in_ok-one.two c.in_ok-one.behind.now c.in_ok-one.ensures.some a b _ st.first_from st.second_from
    (st.parts ∙ three-parts c.args.name.now a b d rest) in
    c.in_err-three.ensures.none d rest (record { fits = st.third_from; parts = head.2 }))

pub returns-clause-some : goal.returns-clause-some
returns-clause-some c =
    record {
      first_from = c.in_ok-one.ensures.some.first_from;
      second_from = c.in_ok-one.ensures.some.second_from;
      third_from = c.in_ok-three.ensures.some.fits;
      parts =
          c.in_ok-one.ensures.some.parts ∙ ap (λ bs. pair_fields c.args.name.now [] 32 c.in_ok-one.one c.in_ok-one.two ++ bs) c.in_ok-three.ensures.some.parts
          ∙ sym (three-parts c.args.name.now c.in_ok-one.one c.in_ok-one.two c.in_ok-three.three c.in_ok-three.rest.now);
    }
