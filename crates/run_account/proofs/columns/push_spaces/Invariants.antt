use Rattle.std.proofs.Common.{◌≡◌, ◌++◌, replicate}
use Rattle.run_account.proofs.columns.push_spaces.Given as goal

abbrev pub invariant-loop-space : goal.invariant-loop-space
invariant-loop-space l = l.out.items ≡ l.initial.out.items ++ replicate l.space 32
