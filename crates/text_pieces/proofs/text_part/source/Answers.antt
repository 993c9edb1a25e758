use Rattle.std.proofs.Common.{◌≡◌, ◌++◌, ◌∷◌, length, drop, codes, refl, sym, ap, ◌∙◌, arith, length-append}
use Rattle.std.proofs.lemmas.List.{take-append-drop}
use Rattle.std.proofs.Math.Seq.{drop-append_seam}
use Rattle.text_pieces.specs.Pieces.{newline}
use Rattle.text_pieces.specs.Field.{field, IsFrom}
use Rattle.text_pieces.proofs.Fields.{if-none}
use Rattle.text_pieces.proofs.Forms.{field-next, source-parts}
use Rattle.text_pieces.proofs.text_part.source.Goals as goal

pub returns-in_err-count-clause-none : goal.returns-in_err-count-clause-none
returns-in_err-count-clause-none c =
    if-none c.from_residual.result _ (λ text rest st.
    c.in_err-count.ensures.none (length text) (text ++ (10 ∷ rest)) (record { fits = record { low = omega arith; high = st.fits }; parts = st.parts ∙ source-parts text rest }))

pub returns-in_err-text-clause-none : goal.returns-in_err-text-clause-none
returns-in_err-text-clause-none c =
    if-none c.from_residual-in_err-text.result _ (λ text rest st.
    let from : IsFrom 0 1048576 (length text) = record { low = omega arith; high = st.fits } in
    let same = field-next (codes "source ") 10 0 1048576 refl (omega arith) c.args.bytes.now c.in_ok-count.count c.in_ok-count.bytes.now c.in_ok-count.ensures.some (length text) (text ++ (10 ∷ rest)) from
    (st.parts ∙ source-parts text rest) in
    omega (arith, same.0, ap length same.1, length-append text (10 ∷ rest), c.in_err-text.ensures.cases))

pub returns-in_err-rest-clause-none : goal.returns-in_err-rest-clause-none
returns-in_err-rest-clause-none c =
    if-none c.from_residual-in_err-rest.result _ (λ text rest st.
    let from : IsFrom 0 1048576 (length text) = record { low = omega arith; high = st.fits } in
    let same = field-next (codes "source ") 10 0 1048576 refl (omega arith) c.args.bytes.now c.in_ok-count.count c.in_ok-count.bytes.now c.in_ok-count.ensures.some (length text) (text ++ (10 ∷ rest)) from
    (st.parts ∙ source-parts text rest) in
    c.in_err-rest.ensures.none rest
    (c.in_ok-text.ensures.cases.2 ∙ ap (λ k. drop k c.in_ok-count.bytes.now) same.0 ∙ ap (λ bs. drop (length text) bs) same.1 ∙ drop-append_seam text (10 ∷ rest)))

pub returns-clause-some : goal.returns-clause-some
returns-clause-some c =
    let split = c.in_ok-text.ensures.cases in
    let size : length c.in_ok-text.text.now ≡ c.in_ok-count.count = split.3 in
    let parts : c.in_ok-count.bytes.now ≡ c.in_ok-text.text.now ++ c.in_ok-text.bytes.now =
    sym (take-append-drop c.in_ok-count.count c.in_ok-count.bytes.now)
    ∙ ap (λ xs. xs ++ drop c.in_ok-count.count c.in_ok-count.bytes.now) (sym split.1) ∙ ap (λ xs. c.in_ok-text.text.now ++ xs) (sym split.2) in
    record {
      fits = omega (arith, size, c.in_ok-count.ensures.some.fits.high);
      parts =
          c.in_ok-count.ensures.some.parts
          ∙ ap (λ bs. field (codes "source ") newline c.in_ok-count.count ++ bs) (parts ∙ ap (λ xs. c.in_ok-text.text.now ++ xs) c.in_ok-rest.ensures.some)
          ∙ ap (λ k. field (codes "source ") newline k ++ (c.in_ok-text.text.now ++ (10 ∷ c.in_ok-rest.rest.now))) (sym size)
          ∙ sym (source-parts c.in_ok-text.text.now c.in_ok-rest.rest.now);
    }
