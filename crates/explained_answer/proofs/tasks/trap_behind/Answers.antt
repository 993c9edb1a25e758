use Rattle.std.proofs.Common.{◌++◌, codes, sym, ap, ◌∙◌}
use Rattle.std.proofs.lemmas.List.{append_cancel_left}
use Rattle.text_pieces.specs.Pieces.{hexadecimal}
use Rattle.text_pieces.specs.Base16.{IsWord}
use Rattle.text_pieces.proofs.Fields.{if-none}
use Rattle.text_pieces.proofs.Forms.{next}
use Rattle.text_pieces.proofs.Words.{word-one}
use Rattle.explained_answer.specs.declared.tasks.Trapped.{Trapped}
use Rattle.explained_answer.proofs.Forms.{trap-parts}
use Rattle.explained_answer.proofs.tasks.trap_behind.Goals as goal

pub returns-in_err-at_pc-clause-none : goal.returns-in_err-at_pc-clause-none
returns-in_err-at_pc-clause-none c =
    if-none c.from_residual.result _ (λ (t : Trapped) rest st. c.in_err-at_pc.ensures.none _ (st.parts ∙ trap-parts c.args.front.now t rest))

pub returns-in_err-pc-clause-none : goal.returns-in_err-pc-clause-none
returns-in_err-pc-clause-none c =
    if-none c.from_residual-in_err-pc.result _ (λ (t : Trapped) rest st.
    let front = append_cancel_left c.args.front.now _ _ (sym c.in_ok-at_pc.ensures.some ∙ st.parts ∙ trap-parts c.args.front.now t rest) in
    c.in_err-pc.ensures.none t.pc _ (record { fits = st.fits.pc; parts = front }))

pub returns-in_err-at_value-clause-none : goal.returns-in_err-at_value-clause-none
returns-in_err-at_value-clause-none c =
    if-none c.from_residual-in_err-at_value.result _ (λ (t : Trapped) rest st.
    let front = append_cancel_left c.args.front.now _ _ (sym c.in_ok-at_pc.ensures.some ∙ st.parts ∙ trap-parts c.args.front.now t rest) in
    let pc = next IsWord hexadecimal word-one c.in_ok-at_pc.at_pc.now c.in_ok-pc.pc c.in_ok-pc.behind_pc.now c.in_ok-pc.ensures.some t.pc _ st.fits.pc front in
    c.in_err-at_value.ensures.none _ pc.1)

pub returns-in_err-value-clause-none : goal.returns-in_err-value-clause-none
returns-in_err-value-clause-none c =
    if-none c.from_residual-in_err-value.result _ (λ (t : Trapped) rest st.
    let front = append_cancel_left c.args.front.now _ _ (sym c.in_ok-at_pc.ensures.some ∙ st.parts ∙ trap-parts c.args.front.now t rest) in
    let pc = next IsWord hexadecimal word-one c.in_ok-at_pc.at_pc.now c.in_ok-pc.pc c.in_ok-pc.behind_pc.now c.in_ok-pc.ensures.some t.pc _ st.fits.pc front in
    let middle = append_cancel_left (codes " value ") _ _ (sym c.in_ok-at_value.ensures.some ∙ pc.1) in
    c.in_err-value.ensures.none t.value _ (record { fits = st.fits.value; parts = middle }))

pub returns-in_err-retired-clause-none : goal.returns-in_err-retired-clause-none
returns-in_err-retired-clause-none c =
    if-none c.from_residual-in_err-retired.result _ (λ (t : Trapped) rest st.
    let front = append_cancel_left c.args.front.now _ _ (sym c.in_ok-at_pc.ensures.some ∙ st.parts ∙ trap-parts c.args.front.now t rest) in
    let pc = next IsWord hexadecimal word-one c.in_ok-at_pc.at_pc.now c.in_ok-pc.pc c.in_ok-pc.behind_pc.now c.in_ok-pc.ensures.some t.pc _ st.fits.pc front in
    let middle = append_cancel_left (codes " value ") _ _ (sym c.in_ok-at_value.ensures.some ∙ pc.1) in
    let value = next IsWord hexadecimal word-one c.in_ok-at_value.at_value.now c.in_ok-value.value c.in_ok-value.behind_value.now c.in_ok-value.ensures.some t.value _ st.fits.value middle in
    c.in_err-retired.ensures.none t.retired rest (record { fits = st.fits.retired; parts = value.1 }))

pub returns-clause-some : goal.returns-clause-some
returns-clause-some c =
    let t : Trapped = record { pc = c.in_ok-pc.pc; value = c.in_ok-value.value; retired = c.in_ok-retired.retired } in
    record {
      fits = record { pc = c.in_ok-pc.ensures.some.fits; value = c.in_ok-value.ensures.some.fits; retired = c.in_ok-retired.ensures.some.fits };
      parts =
          c.in_ok-at_pc.ensures.some
          ∙ ap (λ bs. c.args.front.now ++ bs)
          (c.in_ok-pc.ensures.some.parts
          ∙ ap (λ bs. hexadecimal c.in_ok-pc.pc ++ bs)
          (c.in_ok-at_value.ensures.some
          ∙ ap (λ bs. codes " value " ++ bs)
          (c.in_ok-value.ensures.some.parts ∙ ap (λ bs. hexadecimal c.in_ok-value.value ++ bs) c.in_ok-retired.ensures.some.parts)))
          ∙ sym (trap-parts c.args.front.now t c.in_ok-retired.rest.now);
    }
