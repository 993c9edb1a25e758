use Rattle.region_table.proofs.RegionLemmas.{Spreads}
use Rattle.region_table.proofs.regions.whole_regions.Given as goal

abbrev pub invariant-loop-region : goal.invariant-loop-region
invariant-loop-region l = Spreads l.regions l.words l.region-index l.out.items
