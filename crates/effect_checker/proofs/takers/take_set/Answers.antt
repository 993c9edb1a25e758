use Rattle.effect_checker.proofs.TakerLemmas.{KeepTakers-trans, has_taken-more}
use Rattle.effect_checker.proofs.takers.take_set.Goals as goal

pub loop-interval-preserved : goal.loop-interval-preserved
loop-interval-preserved c = record {
  kept = KeepTakers-trans _ _ _ c.loop-interval.invariant.kept c.take_interval.ensures.kept;
  taken = has_taken-more c.intervals-interval-items.result.now c.loop-interval.interval-index _ c.args.taker c.loop-interval.takers c.take_interval.new.takers c.loop-interval-test.true c.requires.some
      c.loop-interval.invariant.taken c.take_interval.ensures.kept (c.take_interval.ensures.taken c.if-not-take_interval.false);
}
