use Rattle.std.proofs.Common.{◌<◌, length, arith}
use Rattle.run_account.specs.Caches.{as_shared}
use Rattle.word_cache.proofs.SweepLemmas.{swept-step}
use Rattle.run_account.proofs.cache.LineSet.demote.Goals as goal

pub loop-index-preserved : goal.loop-index-preserved
loop-index-preserved c =
    let within : c.loop-index.index < length c.self.inside.lines.items = omega (arith, c.loop-index-test.true, c.len-index-end.ensures) in
    rw c.as_shared.ensures
    (swept-step (as_shared c.args.word.0) c.self.inside.lines.items c.loop-index.self-inside.lines.items c.loop-index.index c.index-line.result.now c.loop-index.invariant c.index-line.ensures within)
