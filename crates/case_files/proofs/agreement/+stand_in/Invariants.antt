use Rattle.std.proofs.Common.{ℕ, ◌<◌, drop, length}
use Rattle.case_files.specs.Standing.{BeginsLine, StandIn}
use Rattle.case_files.proofs.agreement.+stand_in.Given as goal

abbrev pub decreases-stand_in : goal.decreases-stand_in
decreases-stand_in l = length l.parts.now

abbrev pub invariant-loop-skipped : goal.invariant-loop-skipped
invariant-loop-skipped l = (k : ℕ) → k < l.skipped → BeginsLine l.rest k → StandIn l.others (drop k l.rest) → ⊥
