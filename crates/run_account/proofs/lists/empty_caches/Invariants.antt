use Rattle.std.proofs.Common.{◌≡◌, [], replicate}
use Rattle.run_account.proofs.lists.empty_caches.Given as goal

abbrev pub invariant-loop-core : goal.invariant-loop-core
invariant-loop-core l = l.caches.items ≡ replicate l._core (replicate l.sets [])
