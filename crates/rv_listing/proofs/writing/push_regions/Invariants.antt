use Rattle.std.proofs.Common.{◌≡◌, ◌++◌, drop, map}
use Rattle.rv_listing.specs.Listing.{text_of, region_line}
use Rattle.rv_listing.proofs.writing.push_regions.Given as goal

abbrev pub invariant-loop-region : goal.invariant-loop-region
invariant-loop-region l =
    l.out.items ++ text_of (map region_line (drop l.region-index l.regions)) ≡ l.fn.out.items ++ text_of (map region_line l.regions)
