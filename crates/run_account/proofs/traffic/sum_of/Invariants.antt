use Rattle.std.proofs.Common.{◌≡◌, ◌+◌, ◌≤◌, drop}
use Rattle.run_account.specs.Tallies.{capped}
use Rattle.run_account.specs.Traffic.{sum_of_measures}
use Rattle.run_account.proofs.traffic.sum_of.Given as goal

-- the numbers that are left lead to the sum of all
abbrev pub invariant-loop-measure : goal.invariant-loop-measure
invariant-loop-measure l =
    record {
      leads : capped (l.sum + sum_of_measures l.table l.group (drop l.measure-index l.measures)) ≡ capped (sum_of_measures l.table l.group l.measures);
      small : l.sum ≤ 18446744073709551615;
    }
