use Rattle.std.proofs.Common.{◌≡◌, List, drop}
use Rattle.std.specs.Option.{option_or}
use Rattle.common_outcomes.specs.Phases.{Summary}
use Rattle.outcomes_top.specs.Reasons.{AreRows, last_sought}
use Rattle.outcomes_top.proofs.takings.last_sought.Given as goal

-- the last one of those that are left, or else the last one so far
abbrev pub invariant-loop-taking : goal.invariant-loop-taking
invariant-loop-taking l = (rs : List Summary) → AreRows rs l.rows → option_or (last_sought rs l.sought (drop l.taking-index l.takings)) l.last ≡ last_sought rs l.sought l.takings
