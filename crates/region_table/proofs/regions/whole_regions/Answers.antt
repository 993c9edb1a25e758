use Rattle.std.proofs.Common.{ap, sym, ◌∙◌, arith}
use Rattle.region_table.proofs.RegionLemmas.{region-fits, region-rises, spreads-joined, spreads-passed}
use Rattle.region_table.proofs.regions.whole_regions.Goals as goal
use Rattle.region_table.proofs.regions.whole_regions.Goals.{then-has_word_of+in_ok-join, else-has_word_of}

pub has_word_of-requires-clause-within : goal.has_word_of-requires-clause-within
has_word_of-requires-clause-within c =
    let fits = region-fits c.loop-region.region-index c.args.regions.now c.requires.tiled.0 c.region-item.result c.requires.tiled.2 c.loop-region-test.true c.region-item.is in
    omega arith

pub overflow_add-end : goal.overflow_add-end
overflow_add-end c =
    let fits = region-fits c.loop-region.region-index c.args.regions.now c.requires.tiled.0 c.region-item.result c.requires.tiled.2 c.loop-region-test.true c.region-item.is in
    omega arith

pub join-requires-clause-some : goal.join-requires-clause-some
join-requires-clause-some c =
    let fits = region-fits c.loop-region.region-index c.args.regions.now c.requires.tiled.0 c.region-item.result c.requires.tiled.2 c.loop-region-test.true c.region-item.is in
    omega arith

pub join-requires-clause-rising : goal.join-requires-clause-rising
join-requires-clause-rising c =
    region-rises c.args.regions.now c.loop-region.region-index c.loop-region.out.items c.region-item.result c.loop-region.invariant.follows c.loop-region-test.true c.region-item.is

pub loop-region-preserved : goal.loop-region-preserved
loop-region-preserved c =
    elim c.if-has_word_of.branch [
      | then-has_word_of+in_ok-join w ↦
          rw (ap (λ v. v.items) w.out-is)
          (spreads-joined c.args.regions.now c.requires.tiled.0 c.args.words.now c.loop-region.region-index c.loop-region.out.items w.join.new.out.items c.region-item.result
          c.requires.tiled.2 c.loop-region-test.true c.region-item.is c.loop-region.invariant (sym c.has_word_of.ensures ∙ w.if-has_word_of.true)
          w.in_ok-join.ensures.canonical w.in_ok-join.ensures.rising w.in_ok-join.ensures.words)
      | else-has_word_of w ↦
          rw (ap (λ v. v.items) w.out-is)
          (spreads-passed c.args.regions.now c.requires.tiled.0 c.args.words.now c.loop-region.region-index c.loop-region.out.items c.region-item.result
          c.requires.tiled.2 c.loop-region-test.true c.region-item.is c.loop-region.invariant (sym c.has_word_of.ensures ∙ w.if-has_word_of.false))
    ]
