use Rattle.std.proofs.Common.{◌++◌, [], refl, sym, ap, ◌∙◌, arith}
use Rattle.text_pieces.specs.Pieces.{newline, space}
use Rattle.text_pieces.specs.Field.{field}
use Rattle.text_pieces.proofs.Fields.{if-none}
use Rattle.text_pieces.proofs.Forms.{field-next}
use Rattle.run_replay.proofs.Found.{two-parts}
use Rattle.run_replay.proofs.events.two_numbers.Goals as goal

pub returns-in_err-first-clause-none : goal.returns-in_err-first-clause-none
returns-in_err-first-clause-none c =
    if-none c.from_residual.result _ (λ first second rest st.
    c.in_err-first.ensures.none first (field [] newline second ++ rest) (record { fits = st.first_from; parts = st.parts ∙ two-parts c.args.name.now first second rest }))

pub returns-in_err-second-clause-none : goal.returns-in_err-second-clause-none
returns-in_err-second-clause-none c =
    if-none c.from_residual-in_err-second.result _ (λ first second rest st.
    let same = field-next c.args.name.now 32 0 15 refl (omega arith) c.args.bytes.now c.in_ok-first.first c.in_ok-first.bytes.now c.in_ok-first.ensures.some first (field [] newline second ++ rest) st.first_from
    (st.parts ∙ two-parts c.args.name.now first second rest) in
    c.in_err-second.ensures.none second rest (record { fits = st.second_from; parts = same.1 }))

pub returns-clause-some : goal.returns-clause-some
returns-clause-some c =
    record {
      first_from = c.in_ok-first.ensures.some.fits;
      second_from = c.in_ok-second.ensures.some.fits;
      parts =
          c.in_ok-first.ensures.some.parts ∙ ap (λ bs. field c.args.name.now space c.in_ok-first.first ++ bs) c.in_ok-second.ensures.some.parts
          ∙ sym (two-parts c.args.name.now c.in_ok-first.first c.in_ok-second.second c.in_ok-second.rest.now);
    }
