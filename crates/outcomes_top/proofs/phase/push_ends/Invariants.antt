use Rattle.std.proofs.Common.{◌≡◌, ◌++◌, map, drop}
use Rattle.common_outcomes.specs.Answer.{end_alone}
use Rattle.outcomes_top.proofs.phase.push_ends.Given as goal

abbrev pub invariant-loop-outline : goal.invariant-loop-outline
invariant-loop-outline l = l.ends ++ map (end_alone l.phase.0) (drop l.outline-index l.all) ≡ l.fn.ends ++ map (end_alone l.phase.0) l.all
