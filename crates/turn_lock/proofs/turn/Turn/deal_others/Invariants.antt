use Rattle.std.proofs.Common.{◌≡◌, ◌+◌, ◌-◌, ◌≤◌, length, vec_capacity}
use Rattle.turn_lock.specs.Calling.{IsSameSeat}
use Rattle.turn_lock.specs.Dealing.{Deals}
use Rattle.turn_lock.specs.Passes.{AreUnusedPasses}
use Rattle.turn_lock.proofs.turn.Turn.deal_others.Given as goal

abbrev pub invariant-loop-number : goal.invariant-loop-number
invariant-loop-number g l = record {
  same : IsSameSeat l.fn.seat l.seat;
  dealer : Deals l.self.opening l.number (l.passes - l.number) l.seat.me;
  fresh : AreUnusedPasses l.self 1 l.all.items;
  count : 1 + length l.all.items ≡ l.number;
  room : l.passes ≤ vec_capacity l.all;
}
