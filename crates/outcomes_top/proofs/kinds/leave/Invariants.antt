use Rattle.std.proofs.Common.{◌≡◌, take, drop, map, ◌++◌}
use Rattle.common_outcomes.specs.Alone.{left_by}
use Rattle.outcomes_top.proofs.kinds.leave.Given as goal

abbrev pub invariant-loop-place : goal.invariant-loop-place
invariant-loop-place l = l.kinds ≡ map (left_by l.task l.lock) (take l.place l.initial.kinds) ++ drop l.place l.initial.kinds
