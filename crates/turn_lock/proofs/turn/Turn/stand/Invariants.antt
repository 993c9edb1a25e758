use Rattle.std.proofs.Common.{◌≡◌}
use Rattle.turn_lock.specs.Calling.{IsSameSeat}
use Rattle.turn_lock.proofs.turn.Turn.stand.Given as goal

abbrev pub invariant-loop : goal.invariant-loop
invariant-loop g l = record {
  can : (goal.iterator-loop g).can_next l.iterator';
  ends : (goal.iterator-loop g).is_finite l.iterator';
  same : IsSameSeat l.fn.seat l.seat;
  me : l.seat.me ≡ l.fn.seat.me;
}
