use Rattle.std.proofs.Common.{◌++◌, ◌+◌, ◌-◌, arith}
use Rattle.run_changes.specs.Since.{lock_since, locks_since}
use Rattle.run_changes.proofs.Listed.{goes_on, locks_step}
use Rattle.run_changes.proofs.since.add_locks.Goals as goal

pub loop-lock-preserved : goal.loop-lock-preserved
loop-lock-preserved c =
    let S = c.args.machine.now.state in
    let lock = c.loop-lock.lock in
    record {
      within = omega (arith, c.loop-lock-test.true);
      so_far = goes_on c.loop-lock.out c.add_lock.new.out (lock_since S lock) (locks_since S lock (c.args.locks - lock)) (locks_since S (lock + 1) (c.args.locks - (lock + 1)))
          (c.args.out.now ++ locks_since S 0 c.args.locks) c.in_ok-add_lock.ensures (locks_step S lock c.args.locks c.loop-lock-test.true) c.loop-lock.invariant.so_far;
    }
