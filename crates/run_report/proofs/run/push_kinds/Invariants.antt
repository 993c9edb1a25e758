use Rattle.std.proofs.Common.{◌≡◌, ◌++◌, drop, flat_map}
use Rattle.run_report.specs.Run.{kind_line}
use Rattle.run_report.proofs.run.push_kinds.Given as goal

abbrev pub invariant-loop-kind : goal.invariant-loop-kind
invariant-loop-kind l = l.out.items ++ flat_map (kind_line l.counts) (drop l.kind-index l.kinds) ≡ l.fn.out.items ++ flat_map (kind_line l.counts) l.kinds
