use Rattle.text_pieces.proofs.Fields.{if-none}
use Rattle.claims.proofs.rows.task_head.Goals as goal

pub returns-in_err-phase-clause-none : goal.returns-in_err-phase-clause-none
returns-in_err-phase-clause-none c =
    if-none c.from_residual.result _ (λ h rest st.
    c.in_err-phase.ensures.none h.phase.0 h.core.0 h.count rest
    (record { first_from = st.fits.phase; second_from = st.fits.core; third_from = st.fits.count; parts = st.parts }))

pub returns-clause-some : goal.returns-clause-some
returns-clause-some c =
    let found = c.in_ok-phase.ensures.some in
    record { fits = record { phase = found.first_from; core = found.second_from; count = found.third_from }; parts = found.parts }
