use Rattle.std.proofs.Common.{◌≡◌, false, true, None, refl, subst}
use Rattle.word_cache.specs.Cache.{Cache, lookup, has_room}
use Rattle.registration_protocol.specs.Node.{entry_of}
use Rattle.state_text.proofs.conditions.access_reason.Goals as goal

pub returns-in-Room : goal.returns-in-Room
returns-in-Room c =
    let none : entry_of c.args.node.now c.args.word.0 ≡ None = subst (λ (k : Cache). lookup c.args.word.0 k.pairs ≡ None) c.cache.ensures c.in-Room.ensures.0 in
    let room : has_room c.args.node.now.cache c.args.word.0 ≡ true = subst (λ (k : Cache). has_room k c.args.word.0 ≡ true) c.cache.ensures c.in-Room.ensures.1 in
    rw (none, room) refl

pub returns-in-Full : goal.returns-in-Full
returns-in-Full c =
    let none : entry_of c.args.node.now c.args.word.0 ≡ None = subst (λ (k : Cache). lookup c.args.word.0 k.pairs ≡ None) c.cache.ensures c.in-Full.ensures.0 in
    let room : has_room c.args.node.now.cache c.args.word.0 ≡ false = subst (λ (k : Cache). has_room k c.args.word.0 ≡ false) c.cache.ensures c.in-Full.ensures.1 in
    rw (none, room) refl
