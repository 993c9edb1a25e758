use Rattle.std.proofs.Common.{◌≡◌, ◌-◌}
use Rattle.std.specs.List.{find, range_with_len}
use Rattle.outcomes_top.specs.Reasons.{is_guard}
use Rattle.outcomes_top.proofs.origins.guard_below.Given as goal

abbrev pub invariant-loop-lock : goal.invariant-loop-lock
invariant-loop-lock l = find (is_guard l.decl l.held l.word.0) (range_with_len l.lock (l.most - l.lock)) ≡ find (is_guard l.decl l.held l.word.0) (range_with_len 0 l.most)
