use Rattle.std.proofs.Common.{Option, Some, None, ap, ◌∙◌}
use Rattle.std.proofs.lemmas.Option.{slice_get-get_or}
use Rattle.time_order.specs.declared.choice.Choice.{Choice}
use Rattle.time_order.proofs.Firsts.{first-new, first-skip, first-kept, first-sooner}
use Rattle.time_order.proofs.choice.first.Goals as goal
use Rattle.time_order.proofs.choice.first.Goals.{in-Some+then-is_first, in-Some+else-is_first, in_default}

pub loop-place-preserved : goal.loop-place-preserved
loop-place-preserved c =
    let xs = c.args.choices.now in
    let n = c.loop-place.place in
    let best = c.loop-place.best in
    let here = slice_get-get_or xs n None c.loop-place-test.true in
    elim c.match-choice.branch [
      | in-Some+then-is_first w ↦
          (rw w.best-is
          (first-new xs n best w.in-Some.choice (here ∙ ap (λ (o : Option Choice). Some o) w.in-Some.is) (first-sooner best w.in-Some.choice w.is_first.result w.is_first.ensures.some w.if-is_first.true) c.loop-place.invariant))
      | in-Some+else-is_first w ↦
          (rw w.best-is
          (first-kept xs n best w.in-Some.choice w.is_first.result (here ∙ ap (λ (o : Option Choice). Some o) w.in-Some.is) w.is_first.ensures.none w.is_first.ensures.some w.if-is_first.false c.loop-place.invariant))
      | in_default w ↦
          (rw w.best-is (first-skip xs n best (here ∙ ap (λ (o : Option Choice). Some o) w.in_default.is) c.loop-place.invariant))
    ]
