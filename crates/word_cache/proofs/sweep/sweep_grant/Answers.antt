use Rattle.std.proofs.Common.{◌≡◌, ◌<◌, length, Option, None, arith, ap}
use Rattle.word_cache.specs.Cache.{Pair}
use Rattle.word_cache.specs.Row.{after_grant, pair_after_grant}
use Rattle.word_cache.proofs.SweepLemmas.{swept-step, swept-kept}
use Rattle.word_cache.proofs.sweep.sweep_grant.Goals as goal
use Rattle.word_cache.proofs.sweep.sweep_grant.Goals.{then-is_stale, else-is_stale}

pub loop-index-preserved : goal.loop-index-preserved
loop-index-preserved c =
    let within : c.loop-index.index < length c.args.places.now = omega (arith, c.loop-index-test.true, c.len-index-end.ensures) in
    elim c.if-is_stale.branch [
      | then-is_stale w ↦
          let gone : pair_after_grant c.args.signature.now c.args.phase.0 c.args.words.now c.at-pair.result.pair ≡ None = c.is_stale.ensures.stale w.if-is_stale.true in
          rw (w.places-is, w.set.ensures) (rw gone at (swept-step (after_grant c.args.signature.now c.args.phase.0 c.args.words.now) c.args.places.now c.loop-index.places c.loop-index.index c.at-pair.result c.loop-index.invariant (c.at-pair.ensures c.at-pair.result) within))
      | else-is_stale w ↦
          rw w.places-is (swept-kept (after_grant c.args.signature.now c.args.phase.0 c.args.words.now) c.args.places.now c.loop-index.places c.loop-index.index c.at-pair.result c.loop-index.invariant (c.at-pair.ensures c.at-pair.result) within
          (ap (λ (o : Option Pair). record c.at-pair.result { pair = o }) (c.is_stale.ensures.kept w.if-is_stale.false)))
    ]
