use Rattle.std.proofs.Common.{◌≡◌, slice_set, refl, ap}
use Rattle.std.proofs.lemmas.Option.{slice_get_read}
use Rattle.dn_machine.proofs.places.instruct_at.Goals as goal

pub other_instr_into-requires-clause-fits : goal.other_instr_into-requires-clause-fits
other_instr_into-requires-clause-fits c = c.requires.fits _ (slice_get_read c.args.nodes.now.items _ c.args.place _ refl c.requires.place c.index_mut-node.ensures.value)

pub other_instr_into-requires-clause-may : goal.other_instr_into-requires-clause-may
other_instr_into-requires-clause-may c = c.requires.may _ (slice_get_read c.args.nodes.now.items _ c.args.place _ refl c.requires.place c.index_mut-node.ensures.value)

pub returns : goal.returns
returns c = λ n here.
    let there = (slice_get_read c.args.nodes.now.items _ c.args.place _ refl c.requires.place c.index_mut-node.ensures.value) in
    let same : c.index_mut-node.result.now ≡ n = cc in
    let node = rw same at c.other_instr_into.ensures.node in
    let out = rw same at c.other_instr_into.ensures.step in
    (ap (slice_set c.args.nodes.now.items c.args.place) node, out, rw node at c.other_instr_into.ensures.fits)
