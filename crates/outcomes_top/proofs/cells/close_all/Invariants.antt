use Rattle.std.proofs.Common.{◌≡◌, take, drop, map, ◌++◌}
use Rattle.common_outcomes.specs.Alone.{closed}
use Rattle.outcomes_top.proofs.cells.close_all.Given as goal

abbrev pub invariant-loop-place : goal.invariant-loop-place
invariant-loop-place l = l.cells ≡ map closed (take l.place l.initial.cells) ++ drop l.place l.initial.cells
