use Rattle.std.proofs.Common.{◌++◌, [], codes, refl, sym, ap, ◌∙◌}
use Rattle.rv_core.specs.declared.ending.TaskEnd.{TaskEnd}
use Rattle.text_pieces.proofs.Fields.{if-none}
use Rattle.explained_answer.specs.Parts.{pair_fields}
use Rattle.explained_answer.proofs.Forms.{two-next}
use Rattle.explained_answer.proofs.Ends.{task-parts}
use Rattle.explained_answer.proofs.tasks.task.Goals as goal

pub returns-in_err-phase-clause-none : goal.returns-in_err-phase-clause-none
returns-in_err-phase-clause-none c =
    if-none c.from_residual.result _ (λ (t : TaskEnd) rest st.
    c.in_err-phase.ensures.none t.phase.0 t.core.0 _ (record { first_from = st.fits.phase; second_from = st.fits.core; parts = st.parts ∙ task-parts t rest }))

pub returns-in_err-stopped-clause-none : goal.returns-in_err-stopped-clause-none
returns-in_err-stopped-clause-none c =
    if-none c.from_residual-in_err-stopped.result _ (λ (t : TaskEnd) rest st.
    let head = two-next (codes "task ") [] 32 refl c.args.bytes.now c.in_ok-phase.phase c.in_ok-phase.core c.in_ok-phase.at_end.now c.in_ok-phase.ensures.some t.phase.0 t.core.0 _ st.fits.phase st.fits.core
    (st.parts ∙ task-parts t rest) in
    c.in_err-stopped.ensures.none (record { end = t.end; retired = t.retired }) rest (record { fits = st.fits.ended; parts = head.2 }))

pub returns-clause-some : goal.returns-clause-some
returns-clause-some c =
    let s = c.in_ok-stopped.stopped in
    let t : TaskEnd = record { phase = record { 0 = c.in_ok-phase.phase }; core = record { 0 = c.in_ok-phase.core }; end = s.end; retired = s.retired } in
    record {
      fits = record { phase = c.in_ok-phase.ensures.some.first_from; core = c.in_ok-phase.ensures.some.second_from; ended = c.in_ok-stopped.ensures.some.fits };
      parts =
          c.in_ok-phase.ensures.some.parts ∙ ap (λ bs. pair_fields (codes "task ") [] 32 c.in_ok-phase.phase c.in_ok-phase.core ++ bs) c.in_ok-stopped.ensures.some.parts
          ∙ sym (task-parts t c.in_ok-stopped.rest.now);
    }
