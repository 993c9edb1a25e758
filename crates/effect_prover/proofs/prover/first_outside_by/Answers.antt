use Rattle.std.proofs.Common.{◌≡◌, Option, refl, sym, ap, ◌∙◌, subst, arith, ⊎_elim, add-one}
use Rattle.std.proofs.lemmas.Bool.{cases_eq}
use Rattle.std.specs.Option.{IfSome}
use Rattle.effect_prover.specs.declared.row.Row.{Row}
use Rattle.effect_prover.specs.Row.{IsRow}
use Rattle.effect_prover.specs.Blocks.{filled_before, filled}
use Rattle.effect_prover.specs.Inside.{IsInsideAt}
use Rattle.effect_prover.proofs.AnswerLemmas.{all-inside}
use Rattle.effect_prover.proofs.TableLemmas.{filled-known, before-known}
use Rattle.effect_prover.proofs.BlockLemmas.{filled-length}
use Rattle.effect_prover.proofs.prover.first_outside_by.Goals as goal

pub row_here-row-requires-clause-row : goal.row_here-row-requires-clause-row
row_here-row-requires-clause-row c =
    let words = c.requires.words in
    let within = c.loop-place-test.true in
    subst (λ (o : Option Row). IfSome o IsRow) (sym c.loop-place.invariant.row)
    (before-known c.args.program.now c.args.leaders.now c.args.rows.now c.loop-place.place (omega arith) c.requires.rows)

pub place_is_inside-requires-clause-row : goal.place_is_inside-requires-clause-row
place_is_inside-requires-clause-row c =
    let words = c.requires.words in
    let within = c.loop-place-test.true in
    subst (λ (o : Option Row). IfSome o IsRow) (sym c.row_here-row.ensures)
    (filled-known c.args.program.now c.args.leaders.now c.args.rows.now c.loop-place.place (omega arith) c.requires.rows)

pub loop-place-init : goal.loop-place-init
loop-place-init c =
    record {
      row = refl;
      kept = c.requires.kept;
      inside = λ i l. absurd (omega arith);
    }

pub loop-place-preserved : goal.loop-place-preserved
loop-place-preserved c =
    let P = c.args.program.now in
    let L = c.args.leaders.now in
    let t = c.args.rows.now in
    let place = c.loop-place.place in
    record {
      row = c.row_here-row.ensures ∙ ap (filled_before P L t) (sym (add-one place));
      kept = c.place_is_inside.ensures.kept;
      inside = λ i l.
          ⊎_elim
          (λ (here : i ≡ place). subst (IsInsideAt P c.args.task.now (filled P L t)) (sym here) (c.in_ok-place_is_inside.ensures.answer.0 c.if-not-branch.false))
          (λ (apart : i ≡ place → ⊥). c.loop-place.invariant.inside i (omega arith))
          (cases_eq i place);
    }

pub returns : goal.returns
returns c =
    let P = c.args.program.now in
    let L = c.args.leaders.now in
    let t = c.args.rows.now in
    let past = c.loop-place-test.false in
    let words = c.requires.words in
    let all = filled-length P L t in
    all-inside P c.args.task.now (filled P L t) c.loop-place.place (omega arith) c.loop-place.invariant.inside
