use Rattle.region_table.proofs.JoinLemmas.{behind-rises, behind-more, has-more}
use Rattle.region_table.proofs.merging.all_joined.Goals as goal

pub join-requires-clause-some : goal.join-requires-clause-some
join-requires-clause-some c = c.requires.some c.loop-interval.interval-index _ c.loop-interval-test.true

pub join-requires-clause-rising : goal.join-requires-clause-rising
join-requires-clause-rising c =
    behind-rises c.loop-interval.out.items c.args.rising.now c.loop-interval.interval-index _ c.loop-interval-test.true c.loop-interval.invariant.rising

pub loop-interval-preserved : goal.loop-interval-preserved
loop-interval-preserved c = record {
  canonical = c.in_ok-join.ensures.canonical;
  rising = behind-more c.join.new.out.items c.args.rising.now c.loop-interval.interval-index _ c.requires.rising c.loop-interval-test.true c.in_ok-join.ensures.rising;
  words = λ w. has-more c.loop-interval.out.items c.join.new.out.items c.args.rising.now c.loop-interval.interval-index _ w c.loop-interval-test.true c.loop-interval.invariant.words c.in_ok-join.ensures.words;
}
