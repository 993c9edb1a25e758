use Rattle.std.proofs.Common.{◌∙◌}
use Rattle.std.proofs.lemmas.Option.{slice_get-get_or, get_or_from_slice_get}
use Rattle.dn_machine.proofs.places.own_at.Goals as goal

pub own-requires-clause-fits : goal.own-requires-clause-fits
own-requires-clause-fits c = rw c.index-nodes-place.is (c.requires.fits _ (slice_get-get_or c.args.nodes.now c.args.place _ c.requires.place))

pub returns : goal.returns
returns c = λ n here.
    let same = c.index-nodes-place.is ∙ get_or_from_slice_get c.args.nodes.now c.args.place n _ here in
    rw same at c.own.ensures.event
