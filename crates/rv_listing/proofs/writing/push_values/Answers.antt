use Rattle.std.proofs.Common.{length, arith}
use Rattle.region_table.proofs.RegionLemmas.{region-fits}
use Rattle.rv_listing.proofs.TypeLemmas.{words-fit}
use Rattle.rv_listing.proofs.writing.push_values.Goals as goal

pub slice_bounds-push_region_values-end : goal.slice_bounds-push_region_values-end
slice_bounds-push_region_values-end c =
    let fits = region-fits c.loop-region.region-index c.args.regions.now (length c.args.memory.now) c.region-item.result c.requires.tiled c.loop-region-test.true c.region-item.is in
    omega arith

pub returns-clause-words : goal.returns-clause-words
returns-clause-words c = words-fit c.args.memory.now c.type_inv.memory
