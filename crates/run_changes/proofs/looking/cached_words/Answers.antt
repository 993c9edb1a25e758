use Rattle.std.proofs.Common.{◌<◌, ◌+◌, ◌-◌, map, arith}
use Rattle.std.specs.List.{filter}
use Rattle.word_cache.specs.Cache.{in_set}
use Rattle.run_changes.specs.Looks.{pair_before, cached_from, cached}
use Rattle.run_changes.proofs.Listed.{goes_on, cached_step}
use Rattle.run_changes.proofs.looking.cached_words.Goals as goal

pub loop-set-preserved : goal.loop-set-preserved
loop-set-preserved c =
    let cache = c.args.cache.now in
    let set = c.loop-set.set in
    let below : set < cache.sets = omega (arith, c.loop-set-test.true, c.sets-set-end.ensures) in
    record {
      within = omega (arith, below);
      so_far = goes_on c.loop-set.entries c.add_set.new.out (map pair_before (filter (in_set cache.sets set) cache.pairs)) (cached_from cache set (cache.sets - set)) (cached_from cache (set + 1) (cache.sets - (set + 1)))
          (cached cache) c.in_ok-add_set.ensures (cached_step cache set cache.sets below) c.loop-set.invariant.so_far;
    }
