use Rattle.std.proofs.Common.{length, drop, ◌-◌, ◌+◌, ◌≡◌, ◌≤◌}
use Rattle.std.specs.List.{prefix_len}
use Rattle.explained_answer.specs.Several.{goes_on}
use Rattle.explained_answer.proofs.several.before_next.Given as goal

abbrev pub invariant-loop-count : goal.invariant-loop-count
invariant-loop-count l =
    (l.count ≤ length l.lines)
    × (l.count + prefix_len goes_on (drop l.count l.lines) ≡ prefix_len goes_on l.lines)

abbrev pub decreases-loop-count : goal.decreases-loop-count
decreases-loop-count l = length l.lines - l.count
