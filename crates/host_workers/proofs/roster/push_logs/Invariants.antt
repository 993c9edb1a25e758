use Rattle.std.proofs.Common.{◌≡◌, ◌++◌, map}
use Rattle.host_workers.specs.Rosters.{bank_log}
use Rattle.host_workers.proofs.roster.push_logs.Given as goal

abbrev pub invariant-loop-owned : goal.invariant-loop-owned
invariant-loop-owned l = map (λ e. e.items) l.logs.items ≡ map (λ e. e.items) l.fn.logs.items ++ map bank_log l.yielded
