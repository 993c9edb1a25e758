use Rattle.std.proofs.Common.{◌≡◌, ◌++◌, drop}
use Rattle.run_changes.specs.Changes.{lock_changes}
use Rattle.run_changes.proofs.parts.note_locks.Given as goal

abbrev pub invariant-loop-signature : goal.invariant-loop-signature
invariant-loop-signature l =
    record {
      lock : l.lock ≡ l.signature-index;
      so_far : l.out.items ++ lock_changes l.held l.holds l.before l.lock (drop l.signature-index l.after)
          ≡ l.fn.out.items ++ lock_changes l.held l.holds l.before 0 l.after;
    }
