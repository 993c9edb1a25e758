use Rattle.std.proofs.Common.{arith}
use Rattle.run_changes.proofs.Listed.{lock_read}
use Rattle.run_changes.proofs.parts.note_locks.Goals as goal

pub loop-signature-preserved : goal.loop-signature-preserved
loop-signature-preserved c =
    record {
      lock = omega (arith, c.loop-signature.invariant.lock);
      so_far =
          rw c.in_ok-note_lock.ensures
          (lock_read c.args.held c.args.holds c.args.before.now c.args.after.now c.loop-signature.out.items c.loop-signature.lock c.loop-signature.signature-index _ _ c.loop-signature-test.true c.loop-signature.invariant.so_far);
    }

pub note_lock-requires : goal.note_lock-requires
note_lock-requires c = omega (arith, c.loop-signature.invariant.lock, c.loop-signature-test.true, c.requires)
