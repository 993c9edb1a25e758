use Rattle.std.proofs.Common.{◌++◌, sym, ap, ◌∙◌}
use Rattle.dn_base.specs.declared.ids.Grant.{Grant}
use Rattle.text_pieces.proofs.Fields.{if-none}
use Rattle.explained_answer.proofs.Others.{grant-is}
use Rattle.explained_answer.proofs.line_parsing.grant.Goals as goal

pub returns-in_err-phase-clause-none : goal.returns-in_err-phase-clause-none
returns-in_err-phase-clause-none c =
    if-none c.from_residual.result _ (λ (g : Grant) rest st.
    c.in_err-phase.ensures.none g.phase.0 g.core.0 g.lock.0 rest
    (record { first_from = st.fits.phase; second_from = st.fits.core; third_from = st.fits.lock; parts = st.parts ∙ ap (λ xs. xs ++ rest) (grant-is g) }))

pub returns-clause-some : goal.returns-clause-some
returns-clause-some c =
    let found = c.in_ok-phase.ensures.some in
    let g : Grant = record { phase = record { 0 = c.in_ok-phase.phase }; core = record { 0 = c.in_ok-phase.core }; lock = record { 0 = c.in_ok-phase.lock } } in
    record {
      fits = record { phase = found.first_from; core = found.second_from; lock = found.third_from };
      parts = found.parts ∙ ap (λ xs. xs ++ c.in_ok-phase.rest.now) (sym (grant-is g));
    }
