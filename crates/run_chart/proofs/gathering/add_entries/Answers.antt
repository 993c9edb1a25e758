use Rattle.std.proofs.Common.{◌≡◌, length, ap, subst, arith}
use Rattle.std.specs.List.{filter}
use Rattle.word_cache.specs.Cache.{Cache, in_set}
use Rattle.word_cache.specs.Row.{pairs_by_use}
use Rattle.run_chart.proofs.Gathered.{set-added, sets-added}
use Rattle.run_chart.proofs.gathering.add_entries.Goals as goal

pub loop-set-preserved : goal.loop-set-preserved
loop-set-preserved c =
    set-added (length c.args.program.now.memory) c.args.node.now.cache.sets c.loop-set.set c.args.node.now.cache.pairs c.places.result.now c.args.words.now.items c.loop-set.words.items c.add_places.new.words.items
    (subst (λ (k : Cache). pairs_by_use c.places.result.now ≡ filter (in_set k.sets c.loop-set.set) k.pairs) c.cache-cache.ensures c.places.ensures.pairs)
    c.loop-set.invariant c.in_ok-add_places.ensures

pub returns : goal.returns
returns c =
    sets-added (length c.args.program.now.memory) c.args.node.now.cache.sets c.loop-set.set c.args.node.now.cache.pairs c.args.words.now.items c.loop-set.words.items c.requires
    (omega (arith, c.loop-set-test.false, c.sets-set-end.ensures, ap (λ (k : Cache). k.sets) c.cache-cache.ensures)) c.loop-set.invariant
