use Rattle.std.proofs.Common.{◌≡◌, ℕ, true, false, slice_index, sym, ◌∙◌}
use Rattle.rv_core.specs.Access.{is_held}
use Rattle.outcomes_top.proofs.LockLemmas.{find-hit, find-miss, find-end}
use Rattle.outcomes_top.proofs.circles.in_own_row.Goals as goal

pub returns-then-has_lock : goal.returns-then-has_lock
returns-then-has_lock c =
    let passes : is_held (slice_index c.args.rows.now c.loop-lock.lock) c.loop-lock.lock ≡ true = cc in
    sym (find-hit (λ (k : ℕ). is_held (slice_index c.args.rows.now k) k) c.loop-lock.lock c.args.most c.loop-lock-test.true passes) ∙ c.loop-lock.invariant

pub loop-lock-preserved : goal.loop-lock-preserved
loop-lock-preserved c =
    let fails : is_held (slice_index c.args.rows.now c.loop-lock.lock) c.loop-lock.lock ≡ false = cc in
    find-miss (λ (k : ℕ). is_held (slice_index c.args.rows.now k) k) c.loop-lock.lock c.args.most c.loop-lock-test.true fails ∙ c.loop-lock.invariant

pub returns : goal.returns
returns c = sym (find-end (λ (k : ℕ). is_held (slice_index c.args.rows.now k) k) c.loop-lock.lock c.args.most c.loop-lock-test.false) ∙ c.loop-lock.invariant
