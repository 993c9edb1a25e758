use Rattle.std.proofs.Common.{rules}
use Rattle.std.proofs.lemmas.List.Sorted.{IsNonDecreasingBy-from_sort_by_key}
use Rattle.region_table.specs.declared.interval.Interval.{Interval}
use Rattle.region_table.proofs.merging.by_starts.Goals as goal

pub returns-clause-rising : goal.returns-clause-rising
returns-clause-rising c = IsNonDecreasingBy-from_sort_by_key (λ (i : Interval). i.lo) _ c.sort_unstable_by_key.ensures.sorted (λ a r q k. search rules)
