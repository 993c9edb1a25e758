use Rattle.std.proofs.Common.{List, sym, subst, ◌∙◌, ap}
use Rattle.std.specs.List.{insert}
use Rattle.time_order.specs.declared.flight.Flight.{Flight}
use Rattle.time_order.specs.Flights.{AreSorted}
use Rattle.time_order.proofs.Putting.{put-sorted}
use Rattle.time_order.proofs.queue.Queue.put.Goals as goal

pub invariant_of-self-2 : goal.invariant_of-self-2
invariant_of-self-2 c =
    let all = c.as_slice.ensures.value in
    subst (λ (xs : List Flight). AreSorted xs) (ap (λ (xs : List Flight). insert xs c.place_for-place.result c.args.flight) all ∙ sym c.in_ok-insert.ensures.items)
    (put-sorted c.as_slice.result.now c.place_for-place.result c.args.flight (subst (λ (xs : List Flight). AreSorted xs) (sym all) c.self.invariant) c.place_for-place.ensures.within c.place_for-place.ensures.behind c.place_for-place.ensures.ahead)
