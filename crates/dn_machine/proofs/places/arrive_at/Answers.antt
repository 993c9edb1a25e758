use Rattle.std.proofs.Common.{◌≡◌, slice_set, refl, ap}
use Rattle.std.proofs.lemmas.Option.{slice_get_read}
use Rattle.dn_machine.proofs.places.arrive_at.Goals as goal

pub arrive-requires : goal.arrive-requires
arrive-requires c = c.requires.may _ (slice_get_read c.args.nodes.now.items _ c.args.place _ refl c.requires.place c.index_mut-node.ensures.value)

pub returns : goal.returns
returns c = λ n here.
    let there = (slice_get_read c.args.nodes.now.items _ c.args.place _ refl c.requires.place c.index_mut-node.ensures.value) in
    let same : c.index_mut-node.result.now ≡ n = cc in
    let node = rw same at c.arrive.ensures.node in
    let out = rw same at c.arrive.ensures.sent in
    (ap (slice_set c.args.nodes.now.items c.args.place) node, out, rw node at (c.arrive.ensures.fits _ (c.requires.fits _ (slice_get_read c.args.nodes.now.items _ c.args.place _ refl c.requires.place c.index_mut-node.ensures.value))))
