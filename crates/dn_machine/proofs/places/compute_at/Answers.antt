use Rattle.std.proofs.Common.{◌≡◌, slice_set, refl, ap, ◌∙◌}
use Rattle.std.proofs.lemmas.List.{set-get_or}
use Rattle.std.proofs.lemmas.Option.{slice_get_read}
use Rattle.dn_machine.proofs.places.compute_at.Goals as goal

pub compute-requires-clause-fits : goal.compute-requires-clause-fits
compute-requires-clause-fits c = c.requires.fits _ (slice_get_read c.args.nodes.now.items _ c.args.place _ refl c.requires.place c.index_mut-node.ensures.value)

pub compute-requires-clause-may : goal.compute-requires-clause-may
compute-requires-clause-may c = c.requires.may _ (slice_get_read c.args.nodes.now.items _ c.args.place _ refl c.requires.place c.index_mut-node.ensures.value)

pub returns-clause-done : goal.returns-clause-done
returns-clause-done c = λ yes n here.
    let there = (slice_get_read c.args.nodes.now.items _ c.args.place _ refl c.requires.place c.index_mut-node.ensures.value) in
    let same : c.index_mut-node.result.now ≡ n = cc in
    let node = rw same at (c.compute.ensures.done yes) in
    let out = rw same at (c.compute.ensures.silent yes) in
    (ap (slice_set c.args.nodes.now.items c.args.place) node, out, rw node at c.compute.ensures.fits)

pub returns-clause-left : goal.returns-clause-left
returns-clause-left c = λ no.
    ap (slice_set c.args.nodes.now.items c.args.place) (c.compute.ensures.left no ∙ c.index_mut-node.ensures.value) ∙ set-get_or c.args.nodes.now.items c.args.place _
