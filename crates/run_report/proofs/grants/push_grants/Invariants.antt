use Rattle.std.proofs.Common.{◌≡◌, ◌++◌, drop, flat_map}
use Rattle.run_report.specs.Grants.{grant_line}
use Rattle.run_report.proofs.grants.push_grants.Given as goal

abbrev pub invariant-loop-grant : goal.invariant-loop-grant
invariant-loop-grant l = l.out.items ++ flat_map grant_line (drop l.grant-index l.grants) ≡ l.fn.out.items ++ flat_map grant_line l.grants
