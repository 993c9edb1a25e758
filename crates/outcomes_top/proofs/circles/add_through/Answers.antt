use Rattle.std.proofs.Common.{◌≡◌, ℕ, ◌&&◌, ◌||◌, slice_index, ap, ◌∙◌, arith}
use Rattle.std.proofs.lemmas.List.{length-set, get_or-set_other}
use Rattle.rv_core.specs.Access.{is_held}
use Rattle.outcomes_top.proofs.LockLemmas.{at-row}
use Rattle.outcomes_top.proofs.circles.add_through.Goals as goal

pub loop-from-preserved : goal.loop-from-preserved
loop-from-preserved c =
    let i = c.loop-from.from in
    let lock = c.args.lock in
    let old = c.args.rows.now in
    let now = c.loop-from.rows in
    let r = c.pass_through.result in
    let here = c.loop-from.invariant.rest i (omega arith) in
    record {
      count = length-set now i r ∙ c.loop-from.invariant.count;
      done = λ a low.
          at-row (λ (k x : ℕ). (b : ℕ) → is_held x b ≡ (is_held (slice_index old k) b || (is_held (slice_index old k) lock && is_held (slice_index old lock) b))) now i r a (omega (arith, c.loop-from.invariant.count))
          (λ b. c.pass_through.ensures b ∙ ap (λ (x : ℕ). is_held x b || (is_held x lock && is_held (slice_index old lock) b)) here)
          (λ apart. c.loop-from.invariant.done a (omega (arith, low, apart)));
      rest = λ a low. get_or-set_other now i a r 0 (λ e. absurd (omega (arith, low, e))) ∙ c.loop-from.invariant.rest a (omega (arith, low));
    }
