use Rattle.std.proofs.Common.{◌≡◌, ℕ, ◌<◌, ◌∙◌, arith}
use Rattle.std.proofs.lemmas.List.{length-set}
use Rattle.rv_core.specs.Access.{is_held}
use Rattle.common_outcomes.specs.Phases.{is_nested}
use Rattle.outcomes_top.proofs.LockLemmas.{at-row}
use Rattle.outcomes_top.proofs.circles.rows_of.Goals as goal

pub loop-lock-preserved : goal.loop-lock-preserved
loop-lock-preserved c =
    let i = c.loop-lock.lock in
    let all = c.args.all.now in
    record {
      count = length-set c.loop-lock.rows i c.next_of.result ∙ c.loop-lock.invariant.count;
      done = λ a low.
          at-row (λ (k x : ℕ). (b : ℕ) → b < 32 → is_held x b ≡ is_nested all k b) c.loop-lock.rows i c.next_of.result a (omega (arith, c.loop-lock.invariant.count)) c.next_of.ensures
          (λ apart. c.loop-lock.invariant.done a (omega (arith, low, apart)));
    }
