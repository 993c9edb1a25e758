use Rattle.std.proofs.Common.{◌+◌, [], ◌∷◌, take, get_or, refl, ap, sym, ◌∙◌}
use Rattle.region_table.specs.declared.interval.Interval.{Interval}
use Rattle.word_cache.specs.Cache.{dropped_signed}
use Rattle.word_cache.specs.Row.{pairs_by_use}
use Rattle.word_cache.proofs.GrantLemmas.{dropped-both, dropped-none, has-more, row-stays}
use Rattle.word_cache.proofs.grant.drop_each.Goals as goal

-- any interval
abbrev some_interval : Interval
some_interval = record { lo = 0; hi = 0 }

pub loop-interval-init : goal.loop-interval-init
loop-interval-init c = record {
  still = c.requires.row;
  row = λ clock good. good;
  pairs = sym (dropped-none c.args.signature.now c.args.phase.0 [] (λ v. refl) (pairs_by_use c.args.places.now));
}

pub loop-interval-preserved : goal.loop-interval-preserved
loop-interval-preserved c = record {
  still = row-stays c.args.sets c.args.ways c.loop-interval.places c.drop_interval.new.places c.loop-interval.invariant.still c.drop_interval.ensures.row;
  row = λ clock good. c.drop_interval.ensures.row clock (c.loop-interval.invariant.row clock good);
  pairs = c.drop_interval.ensures.pairs
      ∙ ap (dropped_signed c.args.signature.now c.args.phase.0 (get_or c.args.intervals.now c.loop-interval.interval-index some_interval ∷ [])) c.loop-interval.invariant.pairs
      ∙ dropped-both c.args.signature.now c.args.phase.0 (take c.loop-interval.interval-index c.args.intervals.now) (get_or c.args.intervals.now c.loop-interval.interval-index some_interval ∷ []) (take (c.loop-interval.interval-index + 1) c.args.intervals.now) (λ v. has-more c.args.intervals.now c.loop-interval.interval-index some_interval v c.loop-interval-test.true) (pairs_by_use c.args.places.now);
}
