use Rattle.std.proofs.Common.{◌≡◌, [], replicate}
use Rattle.run_account.proofs.cache.SharerCache.new.Given as goal

abbrev pub invariant-loop-set : goal.invariant-loop-set
invariant-loop-set l = l.rows.items ≡ replicate l._set []
