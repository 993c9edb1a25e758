use Rattle.std.proofs.Common.{◌≡◌, ◌++◌, drop}
use Rattle.sweep_top.specs.Kept.{kind_spread_lines}
use Rattle.sweep_top.proofs.summary.push_kinds.Given as goal

abbrev pub invariant-loop-kind : goal.invariant-loop-kind
invariant-loop-kind l = l.out.items ++ kind_spread_lines l.spreads (drop l.kind-index l.kinds) ≡ l.fn.out.items ++ kind_spread_lines l.spreads l.kinds
