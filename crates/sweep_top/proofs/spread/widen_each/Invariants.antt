use Rattle.std.proofs.Common.{◌≡◌, ◌≤◌, take}
use Rattle.sweep_top.specs.Kept.{widened_each}
use Rattle.sweep_top.proofs.spread.widen_each.Given as goal

abbrev pub invariant-loop-i : goal.invariant-loop-i
invariant-loop-i l = record {
  within : l.i ≤ 17;
  is : l.spreads ≡ widened_each l.before l.initial.spreads (take l.i l.numbers);
}
