use Rattle.std.proofs.Common.{◌≡◌, replicate}
use Rattle.run_account.proofs.table.no_numbers.Given as goal

abbrev pub invariant-loop-group : goal.invariant-loop-group
invariant-loop-group l = l.numbers.items ≡ replicate l._group (replicate 58 0)
