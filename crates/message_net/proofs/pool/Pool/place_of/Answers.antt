use Rattle.std.proofs.Common.{◌≡◌, position}
use Rattle.message_net.specs.Pool.{of_id}
use Rattle.message_net.proofs.PoolLemmas.{position-none, position-IsFound}
use Rattle.message_net.proofs.pool.Pool.place_of.Goals as goal

pub found_place-requires-clause-distinct : goal.found_place-requires-clause-distinct
found_place-requires-clause-distinct c =
    rw c.as_slice.ensures.value c.self.invariant.distinct

pub returns-clause-none : goal.returns-clause-none
returns-clause-none c =
    let at : c.found_place.result ≡ position (of_id c.args.id) c.self.inside.row.items = rw (← c.as_slice.ensures.value) c.found_place.ensures in
    rw (← c.self.view_is) (rw at (position-none (of_id c.args.id) c.self.inside.row.items))

pub returns-clause-found : goal.returns-clause-found
returns-clause-found c =
    let at : c.found_place.result ≡ position (of_id c.args.id) c.self.inside.row.items = rw (← c.as_slice.ensures.value) c.found_place.ensures in
    rw (← c.self.view_is) (position-IsFound c.args.id c.self.inside.row.items c.found_place.result at)
