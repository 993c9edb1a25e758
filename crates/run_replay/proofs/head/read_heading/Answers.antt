use Rattle.std.proofs.Common.{◌++◌, sym, ap, ◌∙◌}
use Rattle.text_pieces.specs.Parts.{IsSource, source_part}
use Rattle.run_replay.specs.Document.{title, shape_line, IsTraceShape}
use Rattle.text_pieces.proofs.Fields.{if-none}
use Rattle.text_pieces.proofs.Forms.{source-one, next}
use Rattle.run_replay.proofs.Forms.{head-parts, shape-one, count-from}
use Rattle.run_replay.proofs.Found.{behind-title}
use Rattle.run_replay.proofs.head.read_heading.Goals as goal

pub returns-in_err-bytes-clause-none : goal.returns-in_err-bytes-clause-none
returns-in_err-bytes-clause-none c = if-none c.from_residual.result _ (λ h rest st. c.in_err-bytes.ensures.none _ (st.parts ∙ head-parts h rest))

pub returns-in_err-shape-clause-none : goal.returns-in_err-shape-clause-none
returns-in_err-shape-clause-none c =
    if-none c.from_residual-in_err-shape.result _ (λ h rest st.
    let a = behind-title h c.args.bytes.now c.in_ok-bytes.bytes.now rest c.in_ok-bytes.ensures.some st.parts in
    c.in_err-shape.ensures.none h.shape _ (record { fits = st.fits.shape; parts = a }))

pub returns-in_err-text-clause-none : goal.returns-in_err-text-clause-none
returns-in_err-text-clause-none c =
    if-none c.from_residual-in_err-text.result _ (λ h rest st.
    let a = behind-title h c.args.bytes.now c.in_ok-bytes.bytes.now rest c.in_ok-bytes.ensures.some st.parts in
    let b = next IsTraceShape shape_line shape-one c.in_ok-bytes.bytes.now c.in_ok-shape.shape c.in_ok-shape.bytes.now c.in_ok-shape.ensures.some h.shape _ st.fits.shape a in
    c.in_err-text.ensures.none h.text _ (record { fits = st.fits.text; parts = b.1 }))

pub returns-in_err-count-clause-none : goal.returns-in_err-count-clause-none
returns-in_err-count-clause-none c =
    if-none c.from_residual-in_err-count.result _ (λ h rest st.
    let a = behind-title h c.args.bytes.now c.in_ok-bytes.bytes.now rest c.in_ok-bytes.ensures.some st.parts in
    let b = next IsTraceShape shape_line shape-one c.in_ok-bytes.bytes.now c.in_ok-shape.shape c.in_ok-shape.bytes.now c.in_ok-shape.ensures.some h.shape _ st.fits.shape a in
    let d = next IsSource source_part source-one c.in_ok-shape.bytes.now c.in_ok-text.text.now c.in_ok-text.bytes.now c.in_ok-text.ensures.some h.text _ st.fits.text b.1 in
    c.in_err-count.ensures.none h.count rest (record { fits = count-from h st.fits; parts = d.1 }))

pub returns-clause-some : goal.returns-clause-some
returns-clause-some c =
    record {
      fits =
          record {
            shape = c.in_ok-shape.ensures.some.fits;
            text = c.in_ok-text.ensures.some.fits;
            count = c.in_ok-count.ensures.some.fits.high;
          };
      parts =
          c.in_ok-bytes.ensures.some
          ∙ ap (λ bs. title ++ bs)
          (c.in_ok-shape.ensures.some.parts
          ∙ ap (λ bs. shape_line c.in_ok-shape.shape ++ bs)
          (c.in_ok-text.ensures.some.parts ∙ ap (λ bs. source_part c.in_ok-text.text.now ++ bs) c.in_ok-count.ensures.some.parts))
          ∙ sym (head-parts (record { shape = c.in_ok-shape.shape; text = c.in_ok-text.text.now; count = c.in_ok-count.count }) c.in_ok-count.rest.now);
    }
