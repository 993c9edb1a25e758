use Rattle.std.proofs.Common.{◌≡◌, ℕ, take}
use Rattle.region_table.specs.Words.{has, IsCanonical}
use Rattle.region_table.proofs.JoinLemmas.{IsBehind}
use Rattle.region_table.proofs.merging.all_joined.Given as goal

abbrev pub invariant-loop-interval : goal.invariant-loop-interval
invariant-loop-interval l = record {
  canonical : IsCanonical l.out.items;
  rising : IsBehind l.out.items l.rising l.interval-index;
  words : (w : ℕ) → has l.out.items w ≡ has (take l.interval-index l.rising) w;
}
