use Rattle.std.proofs.Common.{◌++◌, codes, refl, sym, ap, ◌∙◌, arith}
use Rattle.text_pieces.specs.Pieces.{space}
use Rattle.text_pieces.specs.Field.{field}
use Rattle.text_pieces.proofs.Fields.{if-none}
use Rattle.text_pieces.proofs.Forms.{field-next}
use Rattle.run_replay.proofs.Forms.{shape-parts}
use Rattle.run_replay.proofs.head.read_shape.Goals as goal

pub returns-in_err-banks-clause-none : goal.returns-in_err-banks-clause-none
returns-in_err-banks-clause-none c =
    if-none c.from_residual.result _ (λ s rest st. c.in_err-banks.ensures.none s.banks _ (record { fits = st.fits.banks; parts = st.parts ∙ shape-parts s rest }))

pub returns-in_err-sets-clause-none : goal.returns-in_err-sets-clause-none
returns-in_err-sets-clause-none c =
    if-none c.from_residual-in_err-sets.result _ (λ s rest st.
    let a = field-next (codes "banks ") 32 1 16 refl (omega arith) c.args.bytes.now c.in_ok-banks.banks c.in_ok-banks.bytes.now c.in_ok-banks.ensures.some s.banks _ st.fits.banks (st.parts ∙ shape-parts s rest) in
    c.in_err-sets.ensures.none s.sets _ (record { fits = st.fits.sets; parts = a.1 }))

pub returns-in_err-ways-clause-none : goal.returns-in_err-ways-clause-none
returns-in_err-ways-clause-none c =
    if-none c.from_residual-in_err-ways.result _ (λ s rest st.
    let a = field-next (codes "banks ") 32 1 16 refl (omega arith) c.args.bytes.now c.in_ok-banks.banks c.in_ok-banks.bytes.now c.in_ok-banks.ensures.some s.banks _ st.fits.banks (st.parts ∙ shape-parts s rest) in
    let b = field-next (codes "sets ") 32 1 256 refl (omega arith) c.in_ok-banks.bytes.now c.in_ok-sets.sets c.in_ok-sets.bytes.now c.in_ok-sets.ensures.some s.sets _ st.fits.sets a.1 in
    c.in_err-ways.ensures.none s.ways _ (record { fits = st.fits.ways; parts = b.1 }))

pub returns-in_err-fuel-clause-none : goal.returns-in_err-fuel-clause-none
returns-in_err-fuel-clause-none c =
    if-none c.from_residual-in_err-fuel.result _ (λ s rest st.
    let a = field-next (codes "banks ") 32 1 16 refl (omega arith) c.args.bytes.now c.in_ok-banks.banks c.in_ok-banks.bytes.now c.in_ok-banks.ensures.some s.banks _ st.fits.banks (st.parts ∙ shape-parts s rest) in
    let b = field-next (codes "sets ") 32 1 256 refl (omega arith) c.in_ok-banks.bytes.now c.in_ok-sets.sets c.in_ok-sets.bytes.now c.in_ok-sets.ensures.some s.sets _ st.fits.sets a.1 in
    let d = field-next (codes "ways ") 32 1 16 refl (omega arith) c.in_ok-sets.bytes.now c.in_ok-ways.ways c.in_ok-ways.bytes.now c.in_ok-ways.ensures.some s.ways _ st.fits.ways b.1 in
    c.in_err-fuel.ensures.none s.fuel rest (record { fits = st.fits.fuel; parts = d.1 }))

pub returns-clause-some : goal.returns-clause-some
returns-clause-some c =
    record {
      fits =
          record {
            banks = c.in_ok-banks.ensures.some.fits;
            sets = c.in_ok-sets.ensures.some.fits;
            ways = c.in_ok-ways.ensures.some.fits;
            fuel = c.in_ok-fuel.ensures.some.fits;
          };
      parts =
          c.in_ok-banks.ensures.some.parts
          ∙ ap (λ bs. field (codes "banks ") space c.in_ok-banks.banks ++ bs)
          (c.in_ok-sets.ensures.some.parts
          ∙ ap (λ bs. field (codes "sets ") space c.in_ok-sets.sets ++ bs)
          (c.in_ok-ways.ensures.some.parts ∙ ap (λ bs. field (codes "ways ") space c.in_ok-ways.ways ++ bs) c.in_ok-fuel.ensures.some.parts))
          ∙ sym (shape-parts (record { banks = c.in_ok-banks.banks; sets = c.in_ok-sets.sets; ways = c.in_ok-ways.ways; fuel = c.in_ok-fuel.fuel }) c.in_ok-fuel.bytes.now);
    }
