use Rattle.std.proofs.Common.{◌++◌, [], refl, sym, ap, ◌∙◌}
use Rattle.text_pieces.proofs.Fields.{if-none}
use Rattle.explained_answer.specs.Parts.{pair_fields}
use Rattle.explained_answer.proofs.Forms.{two-next}
use Rattle.explained_answer.proofs.Others.{place-parts}
use Rattle.explained_answer.proofs.programs.place_line.Goals as goal

pub returns-in_err-phase-clause-none : goal.returns-in_err-phase-clause-none
returns-in_err-phase-clause-none c =
    if-none c.from_residual.result _ (λ p q a rest st.
    c.in_err-phase.ensures.none p q _ (record { first_from = st.numbers.phase_from; second_from = st.numbers.core_from; parts = st.parts ∙ place-parts c.args.name.now p q a rest }))

pub returns-in_err-pc-clause-none : goal.returns-in_err-pc-clause-none
returns-in_err-pc-clause-none c =
    if-none c.from_residual-in_err-pc.result _ (λ p q a rest st.
    let head = two-next c.args.name.now [] 32 refl c.args.bytes.now c.in_ok-phase.phase c.in_ok-phase.core c.in_ok-phase.at_pc.now c.in_ok-phase.ensures.some p q _ st.numbers.phase_from st.numbers.core_from
    (st.parts ∙ place-parts c.args.name.now p q a rest) in
    c.in_err-pc.ensures.none a rest (record { fits = st.numbers.pc_word; parts = head.2 }))

pub returns-clause-some : goal.returns-clause-some
returns-clause-some c =
    record {
      numbers = record { phase_from = c.in_ok-phase.ensures.some.first_from; core_from = c.in_ok-phase.ensures.some.second_from; pc_word = c.in_ok-pc.ensures.some.fits };
      parts =
          c.in_ok-phase.ensures.some.parts ∙ ap (λ bs. pair_fields c.args.name.now [] 32 c.in_ok-phase.phase c.in_ok-phase.core ++ bs) c.in_ok-pc.ensures.some.parts
          ∙ sym (place-parts c.args.name.now c.in_ok-phase.phase c.in_ok-phase.core c.in_ok-pc.pc c.in_ok-pc.rest.now);
    }
