use Rattle.std.proofs.Common.{◌≡◌, ◌<◌, ◌&&◌, nat_le, nat_lt}
use Rattle.outcomes_top.specs.Marks.{AreMarkedFor}
use Rattle.outcomes_top.proofs.marks.mark_interval.Given as goal

abbrev pub invariant-loop-word : goal.invariant-loop-word
invariant-loop-word l = record {
  marked : AreMarkedFor l.initial.marks l.marks l.core (λ w. nat_le l.fn.interval.lo w && nat_lt w l.word);
  stays : l.fn.interval.hi < l.fn.interval.lo → l.word ≡ l.fn.interval.lo;
}
