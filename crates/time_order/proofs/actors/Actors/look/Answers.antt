use Rattle.std.proofs.Common.{◌≡◌, ◌<◌, ◌+◌, ℕ, List, [], Option, length, slice_get, get_or, ap, sym, subst, ◌∙◌, arith}
use Rattle.std.proofs.lemmas.List.{get_or_default}
use Rattle.std.proofs.Math.ListN.{length-set}
use Rattle.message_net.specs.declared.event.Event.{Event}
use Rattle.dn_machine.specs.Pick.{own_event_in}
use Rattle.time_order.specs.declared.choice.Choice.{Choice}
use Rattle.time_order.specs.declared.flight.Flight.{Flight}
use Rattle.time_order.specs.Actors.{AreLooked}
use Rattle.time_order.specs.Choices.{choice_of}
use Rattle.time_order.specs.Flights.{AreSorted, queue_at}
use Rattle.time_order.proofs.Looking.{looked-more, sorted-more}
use Rattle.time_order.proofs.actors.Actors.look.Goals as goal

queue-is : (c : goal.After-set) → c.index.result.now ≡ queue_at c.loop-place.self.queues.items c.loop-place.place
queue-is c =
    let within : c.loop-place.place < length c.loop-place.self.queues.items =
    omega (arith, c.loop-place-test.true, c.len-place-end.ensures, c.requires.queues, ap (λ (q : _). length q.items) c.loop-place.invariant.queues)
    in
    c.index.ensures ∙ get_or_default c.loop-place.self.queues.items c.loop-place.place c.index.result.now [] within

pub loop-place-preserved : goal.loop-place-preserved
loop-place-preserved c =
    let n = c.loop-place.place in
    let S = c.args.machine.now.state in
    let within : n < length c.loop-place.self.choices = omega (arith, c.loop-place-test.true, c.len-place-end.ensures, c.loop-place.invariant.long) in
    let is =
    c.of-choice.ensures
    ∙ (ap (λ (o : Option Event). choice_of o (get_or c.as_slice.result.now n 0) c.first.result) c.own_event-own.ensures.event
    ∙ (ap (λ (xs : List ℕ). choice_of (own_event_in S n) (get_or xs n 0) c.first.result) c.as_slice.ensures
    ∙ ap (λ (o : Option Flight). choice_of (own_event_in S n) (get_or c.loop-place.self.free n 0) o) (c.first.ensures.first ∙ ap (λ (q : List Flight). slice_get q 0) (queue-is c))))
    in
    record {
      looked =
          subst (λ (xs : List (Option Choice)). AreLooked S c.loop-place.self.free c.loop-place.self.queues.items (n + 1) xs) (sym c.set.ensures)
          (looked-more S c.loop-place.self.free c.loop-place.self.queues.items n c.loop-place.self.choices c.of-choice.result c.loop-place.invariant.looked within is);
      sorted = sorted-more c.loop-place.self.queues.items n c.loop-place.invariant.sorted (subst (λ (q : List Flight). AreSorted q) (queue-is c) c.first.ensures.sorted);
      free = c.loop-place.invariant.free;
      queues = c.loop-place.invariant.queues;
      long = ap (λ (xs : List (Option Choice)). length xs) c.set.ensures ∙ (length-set c.loop-place.self.choices n c.of-choice.result ∙ c.loop-place.invariant.long);
    }
