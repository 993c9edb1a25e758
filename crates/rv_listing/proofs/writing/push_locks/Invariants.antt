use Rattle.std.proofs.Common.{◌≡◌, ◌++◌, drop, map}
use Rattle.rv_listing.specs.Listing.{text_of, lock_line}
use Rattle.rv_listing.proofs.writing.push_locks.Given as goal

abbrev pub invariant-loop-lock : goal.invariant-loop-lock
invariant-loop-lock l =
    l.out.items ++ text_of (map lock_line (drop l.lock-index l.locks)) ≡ l.fn.out.items ++ text_of (map lock_line l.locks)
