use Rattle.std.proofs.Common.{◌≡◌, ◌+◌, ◌-◌, ap, ◌∙◌, arith}
use Rattle.std.specs.List.{filter}
use Rattle.word_cache.specs.Cache.{Cache, in_set}
use Rattle.run_account.proofs.Swept.{one-set, all-sets}
use Rattle.run_account.proofs.account.Account.note_copies.Goals as goal

pub loop-set-preserved : goal.loop-set-preserved
loop-set-preserved c =
    let count : c.sets-set-end.result ≡ c.args.node.now.cache.sets = c.sets-set-end.ensures ∙ ap (λ (x : Cache). x.sets) c.cache-cache.ensures in
    one-set c.args.machine.now.state c.args.node.now c.args.occasion c.args.words.now c.loop-set.self c.note_set.new.self c.places.result.now c.args.node.now.cache.sets c.loop-set.set
    (c.args.node.now.cache.sets - (c.loop-set.set + 1)) (c.args.node.now.cache.sets - c.loop-set.set) c.args.node.now.cache.pairs c.note_set.ensures
    (c.places.ensures.pairs ∙ ap (λ (x : Cache). filter (in_set x.sets c.loop-set.set) x.pairs) c.cache-cache.ensures) (omega (arith, count))
    ∙ c.loop-set.invariant

pub returns : goal.returns
returns c =
    let count : c.sets-set-end.result ≡ c.args.node.now.cache.sets = c.sets-set-end.ensures ∙ ap (λ (x : Cache). x.sets) c.cache-cache.ensures in
    all-sets c.args.machine.now.state c.args.node.now c.args.occasion c.args.words.now c.args.self.now c.loop-set.self c.args.node.now.cache.sets c.loop-set.set
    (c.args.node.now.cache.sets - c.loop-set.set) c.args.node.now.cache.pairs c.requires (omega (arith, count)) c.loop-set.invariant
