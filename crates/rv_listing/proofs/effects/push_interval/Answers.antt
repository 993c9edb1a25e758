use Rattle.std.proofs.Common.{◌++◌, option_map, ap, arith}
use Rattle.region_table.proofs.RegionLemmas.{region-fits}
use Rattle.rv_listing.specs.Listing.{text_of}
use Rattle.rv_listing.proofs.PartLemmas.{parts-passed, passed-more, passed-later, part-more, part-last}
use Rattle.rv_listing.proofs.effects.push_interval.Goals as goal

pub loop-index-init : goal.loop-index-init
loop-index-init c =
    record {
      within = c.requires.from;
      passed = passed-later c.args.interval.lo c.args.interval.hi c.args.from c.args.regions.now (omega arith) c.requires.passed;
      left = ap (λ lines. c.args.out.now.items ++ text_of lines)
          (parts-passed c.args.usage.word.now (option_map (λ s. s.now) c.args.usage.lock) c.args.interval c.args.from c.args.regions.now c.requires.passed);
    }

pub push_part-requires : goal.push_part-requires
push_part-requires c =
    let fits = region-fits c.loop-index.index c.args.regions.now c.requires.tiled.0 c.index-regions-index.result c.requires.tiled.2 c.loop-index-test.true c.index-regions-index.is in
    omega arith

pub overflow_add-region : goal.overflow_add-region
overflow_add-region c =
    let fits = region-fits c.loop-index.index c.args.regions.now c.requires.tiled.0 c.index-regions-index.result c.requires.tiled.2 c.loop-index-test.true c.index-regions-index.is in
    omega arith

pub returns-then-interval-region-clause-lines : goal.returns-then-interval-region-clause-lines
returns-then-interval-region-clause-lines c =
    part-last c.args.usage.word.now (option_map (λ s. s.now) c.args.usage.lock) c.args.interval c.loop-index.index c.args.regions.now c.requires.tiled.0 c.index-regions-index.result _ _ _
    c.requires.tiled.2 c.loop-index-test.true c.index-regions-index.is c.in_ok-push_part.ensures c.if-interval-region.true c.loop-index.invariant.left

pub loop-index-preserved : goal.loop-index-preserved
loop-index-preserved c =
    record {
      within = omega arith;
      passed = passed-more c.args.interval.hi c.loop-index.index c.args.regions.now c.index-regions-index.result c.loop-index-test.true c.index-regions-index.is c.loop-index.invariant.passed (omega arith);
      left = part-more c.args.usage.word.now (option_map (λ s. s.now) c.args.usage.lock) c.args.interval c.loop-index.index c.args.regions.now c.index-regions-index.result _ _ _
          c.loop-index-test.true c.index-regions-index.is c.in_ok-push_part.ensures c.loop-index.invariant.left;
    }
