use Rattle.std.proofs.Common.{◌≡◌, ◌++◌, drop, flat_map}
use Rattle.rv_listing.specs.Listing.{text_of, region_values}
use Rattle.rv_listing.proofs.writing.push_values.Given as goal

abbrev pub invariant-loop-region : goal.invariant-loop-region
invariant-loop-region l =
    l.out.items ++ text_of (flat_map (region_values l.memory) (drop l.region-index l.regions)) ≡ l.fn.out.items ++ text_of (flat_map (region_values l.memory) l.regions)
