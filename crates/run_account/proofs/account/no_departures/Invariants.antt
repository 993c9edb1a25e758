use Rattle.std.proofs.Common.{◌≡◌, replicate, None}
use Rattle.run_account.proofs.account.no_departures.Given as goal

abbrev pub invariant-loop-core : goal.invariant-loop-core
invariant-loop-core l = l.rows.items ≡ replicate l._core (replicate l.words None)
