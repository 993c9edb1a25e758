use Rattle.std.proofs.Common.{◌≡◌, ℕ, suc, ◌+◌, Bool, ◌&&◌, ◌||◌, slice_index, ap, ◌∙◌, arith}
use Rattle.rv_core.specs.Access.{is_held}
use Rattle.common_outcomes.specs.Phases.{leads}
use Rattle.outcomes_top.proofs.circles.all_leading.Goals as goal

pub loop-lock-preserved : goal.loop-lock-preserved
loop-lock-preserved c =
    let n = c.loop-lock.lock in
    let all = c.args.all.now in
    let rows = c.loop-lock.rows in
    let was = c.loop-lock.invariant.leads in
    let next : suc n ≡ n + 1 = omega arith in
    record {
      count = c.add_through.ensures.count;
      leads = λ a b low lower.
          c.add_through.ensures.ways a b low
          ∙ ap (λ (x : Bool). x || (is_held (slice_index rows a) n && is_held (slice_index rows n) b)) (was a b low lower)
          ∙ ap (λ (x : Bool). leads all n a b || (x && is_held (slice_index rows n) b)) (was a n low (omega arith))
          ∙ ap (λ (x : Bool). leads all n a b || (leads all n a n && x)) (was n b (omega arith) lower)
          ∙ ap (λ (k : ℕ). leads all k a b) next;
    }
