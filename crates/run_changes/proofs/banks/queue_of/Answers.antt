use Rattle.std.proofs.Common.{◌≡◌, ◌+◌, [], ◌∷◌, drop, slice_get, Some, sym, ◌∙◌, arith}
use Rattle.std.proofs.lemmas.Option.{slice_get_within}
use Rattle.run_changes.proofs.Listed.{goes_on, is_all, drop_there, drop_none}
use Rattle.run_changes.proofs.banks.queue_of.Goals as goal

pub loop-core-preserved : goal.loop-core-preserved
loop-core-preserved c =
    let queue = c.args.home.now.queue in
    let there : slice_get queue c.loop-core.index ≡ Some c.in-Some.core = sym c.queued.ensures ∙ c.in-Some.is in
    record {
      within = omega (arith, slice_get_within queue c.loop-core.index c.in-Some.core there);
      so_far = goes_on c.loop-core.queue c.push.new.self (c.in-Some.core ∷ []) (drop c.loop-core.index queue) (drop (c.loop-core.index + 1) queue) queue c.in_ok-push.ensures.ok
          (drop_there queue c.loop-core.index c.in-Some.core there) c.loop-core.invariant.so_far;
    }

pub returns : goal.returns
returns c =
    let queue = c.args.home.now.queue in
    is_all c.loop-core.queue (drop c.loop-core.index queue) queue (drop_none queue c.loop-core.index (sym c.queued.ensures ∙ c.in_default.is)) c.loop-core.invariant.so_far
