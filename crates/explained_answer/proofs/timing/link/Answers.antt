use Rattle.std.proofs.Common.{◌++◌, codes, refl, sym, ap, ◌∙◌, arith}
use Rattle.text_pieces.specs.Pieces.{space}
use Rattle.text_pieces.specs.Field.{field}
use Rattle.text_pieces.proofs.Fields.{if-none}
use Rattle.text_pieces.proofs.Forms.{field-next}
use Rattle.explained_answer.specs.declared.line.Link.{Link}
use Rattle.explained_answer.proofs.Others.{link-parts}
use Rattle.explained_answer.proofs.timing.link.Goals as goal

pub returns-in_err-event-clause-none : goal.returns-in_err-event-clause-none
returns-in_err-event-clause-none c =
    if-none c.from_residual.result _ (λ (l : Link) rest st. c.in_err-event.ensures.none l.event _ (record { fits = st.fits.event; parts = st.parts ∙ link-parts l rest }))

pub returns-in_err-kind-clause-none : goal.returns-in_err-kind-clause-none
returns-in_err-kind-clause-none c =
    if-none c.from_residual-in_err-kind.result _ (λ (l : Link) rest st.
    let one = field-next (codes "link ") 32 0 4294967295 refl (omega arith) c.args.bytes.now c.in_ok-event.event c.in_ok-event.behind.now c.in_ok-event.ensures.some l.event _ st.fits.event
    (st.parts ∙ link-parts l rest) in
    c.in_err-kind.ensures.none l.kind l.finish rest (record { fits = st.fits.finish; parts = one.1 }))

pub returns-clause-some : goal.returns-clause-some
returns-clause-some c =
    let l : Link = record { event = c.in_ok-event.event; kind = c.in_ok-kind.kind; finish = c.in_ok-kind.finish } in
    record {
      fits = record { event = c.in_ok-event.ensures.some.fits; finish = c.in_ok-kind.ensures.some.fits };
      parts =
          c.in_ok-event.ensures.some.parts ∙ ap (λ bs. field (codes "link ") space c.in_ok-event.event ++ bs) c.in_ok-kind.ensures.some.parts
          ∙ sym (link-parts l c.in_ok-kind.rest.now);
    }
