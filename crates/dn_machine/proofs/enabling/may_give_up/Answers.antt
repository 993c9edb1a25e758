use Rattle.std.proofs.Common.{◌<◌, length, rules}
use Rattle.std.proofs.lemmas.Option.{slice_get-get_or}
use Rattle.dn_machine.proofs.enabling.may_give_up.Goals as goal

pub may_evict-requires-clause-fits : goal.may_evict-requires-clause-fits
may_evict-requires-clause-fits c =
    let within : c.args.core.0 < length c.args.nodes.now = search rules in
    rw c.index-nodes-place.is (c.requires.fits c.args.core.0 _ (slice_get-get_or c.args.nodes.now c.args.core.0 _ within))

pub returns : goal.returns
returns c =
    let within : c.args.core.0 < length c.args.nodes.now = search rules in
    let here = slice_get-get_or c.args.nodes.now c.args.core.0 c.index-nodes-place.result within in
    rw (here, ← c.index-nodes-place.is) c.may_evict.ensures
