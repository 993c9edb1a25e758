use Rattle.std.proofs.Common.{◌++◌, ◌∷◌, sym, ap, ◌∙◌}
use Rattle.std.specs.Fmt.{decimal}
use Rattle.text_pieces.proofs.Fields.{if-none, field-parts, behind-name}
use Rattle.text_pieces.proofs.numbers.field.Goals as goal

pub returns-in_err-bytes-clause-none : goal.returns-in_err-bytes-clause-none
returns-in_err-bytes-clause-none c =
    if-none c.from_residual.result _ (λ n rest st. c.in_err-bytes.ensures.none (decimal n ++ (c.args.end ∷ rest)) (st.parts ∙ field-parts c.args.name.now c.args.end n rest))

pub returns-in_err-value-clause-none : goal.returns-in_err-value-clause-none
returns-in_err-value-clause-none c =
    if-none c.from_residual-in_err-value.result _ (λ n rest st.
    c.in_err-value.ensures.none n c.args.end rest st.fits c.requires
    (behind-name c.args.bytes.now c.args.name.now c.in_ok-bytes.bytes.now c.args.end n rest c.in_ok-bytes.ensures.some st.parts))

pub returns-in_err-rest-clause-none : goal.returns-in_err-rest-clause-none
returns-in_err-rest-clause-none c =
    if-none c.from_residual-in_err-rest.result _ (λ n rest st.
    let one = c.in_ok-value.ensures.one n c.args.end rest st.fits c.requires
    (behind-name c.args.bytes.now c.args.name.now c.in_ok-bytes.bytes.now c.args.end n rest c.in_ok-bytes.ensures.some st.parts) in
    c.in_err-rest.ensures.none rest one.1)

pub returns-clause-some : goal.returns-clause-some
returns-clause-some c =
    record {
      fits = c.in_ok-value.ensures.within;
      parts =
          c.in_ok-bytes.ensures.some
          ∙ ap (λ bs. c.args.name.now ++ bs) (c.in_ok-value.ensures.parts ∙ ap (λ bs. decimal c.in_ok-value.value ++ bs) c.in_ok-rest.ensures.some)
          ∙ sym (field-parts c.args.name.now c.args.end c.in_ok-value.value c.in_ok-rest.rest.now);
    }
