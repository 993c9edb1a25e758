use Rattle.std.proofs.Common.{◌||◌, ◌&&◌, take, sym, ap, ◌∙◌}
use Rattle.region_table.specs.Words.{has}
use Rattle.rv_core.specs.Access.{is_held, under}
use Rattle.effect_prover.proofs.StretchLemmas.{or-assoc, under-more}
use Rattle.effect_prover.proofs.usable.push_under.Goals as goal

pub loop-lock-preserved : goal.loop-lock-preserved
loop-lock-preserved c =
    let sets = c.args.sets.now in
    let k = c.loop-lock.lock in
    let s = c.index-sets-lock.result in
    let held = c.args.held in record {
      some = c.in_ok-push_held.ensures.some;
      words = λ w.
          let old = has c.args.intervals.now.items w in
          let before = under (take k sets) 0 held w in
          let own = is_held held k && has s w in
          c.in_ok-push_held.ensures.words w
          ∙ (ap (λ b. b || own) (c.loop-lock.invariant.words w)
          ∙ (sym (or-assoc old before own) ∙ ap (λ b. old || b) (sym (under-more sets k s held w c.index-sets-lock.is c.loop-lock-test.true))));
    }
