use Rattle.std.proofs.Common.{◌≡◌, arith}
use Rattle.std.specs.Prelude.{count_by}
use Rattle.word_cache.specs.Cache.{Pair, is_pending, pending_count}
use Rattle.word_cache.specs.Row.{pairs_by_use, has_pending}
use Rattle.word_cache.proofs.OrderLemmas.{count-by_use}
use Rattle.word_cache.proofs.EditLemmas.{pending_limit}
use Rattle.word_cache.proofs.cache.WordCache.pending.Goals as goal

pub returns : goal.returns
returns c =
    let counts : pending_count (pairs_by_use c.self.inside.places) ≡ count_by has_pending c.self.inside.places = count-by_use (λ (p : Pair). is_pending p.1) c.self.inside.places in
    let limit = pending_limit c.self.inside.sets c.self.inside.ways c.self.inside.places c.self.invariant.row_is in
    rw (← c.self.view_is) (omega (arith, c.pending.ensures, counts, limit))
