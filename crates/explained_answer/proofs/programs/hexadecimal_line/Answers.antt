use Rattle.std.proofs.Common.{◌++◌, sym, ap, ◌∙◌}
use Rattle.text_pieces.specs.Pieces.{hexadecimal}
use Rattle.text_pieces.specs.Base16.{IsWord}
use Rattle.text_pieces.proofs.Fields.{if-none}
use Rattle.text_pieces.proofs.Forms.{next}
use Rattle.text_pieces.proofs.Words.{word-one}
use Rattle.explained_answer.proofs.Others.{hexadecimal-parts}
use Rattle.explained_answer.proofs.programs.hexadecimal_line.Goals as goal

pub returns-in_err-value-clause-none : goal.returns-in_err-value-clause-none
returns-in_err-value-clause-none c =
    if-none c.from_residual.result _ (λ n rest st. c.in_err-value.ensures.none n _ (record { fits = st.fits; parts = st.parts ∙ hexadecimal-parts n rest }))

pub returns-in_err-rest-clause-none : goal.returns-in_err-rest-clause-none
returns-in_err-rest-clause-none c =
    if-none c.from_residual-in_err-rest.result _ (λ n rest st.
    let one = next IsWord hexadecimal word-one c.args.bytes.now c.in_ok-value.value c.in_ok-value.behind_value.now c.in_ok-value.ensures.some n _ st.fits (st.parts ∙ hexadecimal-parts n rest) in
    c.in_err-rest.ensures.none rest one.1)

pub returns-clause-some : goal.returns-clause-some
returns-clause-some c =
    record {
      fits = c.in_ok-value.ensures.some.fits;
      parts =
          c.in_ok-value.ensures.some.parts ∙ ap (λ bs. hexadecimal c.in_ok-value.value ++ bs) c.in_ok-rest.ensures.some
          ∙ sym (hexadecimal-parts c.in_ok-value.value c.in_ok-rest.rest.now);
    }
