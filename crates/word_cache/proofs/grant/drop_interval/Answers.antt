use Rattle.std.proofs.Common.{◌+◌, [], ◌∷◌, ap, sym, ◌∙◌}
use Rattle.word_cache.specs.Cache.{dropped_signed}
use Rattle.word_cache.specs.Row.{pairs_by_use}
use Rattle.word_cache.proofs.GrantLemmas.{only, dropped-both, dropped-none, interval-empty, interval-more, row-stays}
use Rattle.word_cache.proofs.grant.drop_interval.Goals as goal

pub loop-number-init : goal.loop-number-init
loop-number-init c = record {
  still = c.requires.row;
  row = λ clock good. good;
  pairs = sym (dropped-none c.args.signature.now c.args.phase.0 (record { lo = c.args.interval.lo; hi = c.args.interval.lo } ∷ []) (interval-empty c.args.interval.lo) (pairs_by_use c.args.places.now));
}

pub loop-number-preserved : goal.loop-number-preserved
loop-number-preserved c = record {
  still = row-stays c.args.sets c.args.ways c.loop-number.places c.drop_word.new.places c.loop-number.invariant.still c.drop_word.ensures.row;
  row = λ clock good. c.drop_word.ensures.row clock (c.loop-number.invariant.row clock good);
  pairs = c.drop_word.ensures.pairs
      ∙ ap (dropped_signed c.args.signature.now c.args.phase.0 (only c.loop-number.number)) c.loop-number.invariant.pairs
      ∙ dropped-both c.args.signature.now c.args.phase.0 (record { lo = c.args.interval.lo; hi = c.loop-number.number } ∷ []) (only c.loop-number.number) (record { lo = c.args.interval.lo; hi = c.loop-number.number + 1 } ∷ []) (λ v. interval-more c.args.interval.lo c.loop-number.number v c.loop-number.auto.number) (pairs_by_use c.args.places.now);
}
