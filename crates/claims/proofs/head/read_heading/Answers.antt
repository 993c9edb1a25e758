use Rattle.std.proofs.Common.{◌++◌, sym, ap, ◌∙◌}
use Rattle.text_pieces.proofs.Fields.{if-none}
use Rattle.text_pieces.proofs.Forms.{next}
use Rattle.claims.specs.Claim.{IsQuestion, question_text}
use Rattle.claims.specs.Rows.{asked_by}
use Rattle.claims.proofs.Forms.{head-parts, question-one}
use Rattle.claims.proofs.head.read_heading.Goals as goal

pub returns-in_err-opening-clause-none : goal.returns-in_err-opening-clause-none
returns-in_err-opening-clause-none c =
    if-none c.from_residual.result _ (λ h rest st. c.in_err-opening.ensures.none h.question _ (record { fits = st.fits.question; parts = st.parts ∙ head-parts h rest }))

pub returns-in_err-count-clause-none : goal.returns-in_err-count-clause-none
returns-in_err-count-clause-none c =
    if-none c.from_residual-in_err-count.result _ (λ h rest st.
    let asked = next IsQuestion question_text question-one c.args.bytes.now (asked_by c.in_ok-opening.opening) c.in_ok-opening.opening.rest.now c.in_ok-opening.ensures.some h.question _ st.fits.question
    (st.parts ∙ head-parts h rest) in
    c.in_err-count.ensures.none h.count rest (record { fits = st.fits.count; parts = asked.1 }))

pub returns-clause-some : goal.returns-clause-some
returns-clause-some c =
    record {
      fits = record { question = c.in_ok-opening.ensures.some.fits; count = c.in_ok-count.ensures.some.fits };
      parts =
          c.in_ok-opening.ensures.some.parts
          ∙ ap (λ bs. question_text (asked_by c.in_ok-opening.opening) ++ bs) c.in_ok-count.ensures.some.parts
          ∙ sym (head-parts (record { question = asked_by c.in_ok-opening.opening; count = c.in_ok-count.count }) c.in_ok-count.rest.now);
    }
