use Rattle.std.proofs.Common.{◌≡◌, ◌++◌, drop, flat_map}
use Rattle.state_text.specs.Parts.{interval_lines_of}
use Rattle.state_text.proofs.signing.push_intervals.Given as goal

abbrev pub invariant-loop-interval : goal.invariant-loop-interval
invariant-loop-interval l =
    l.out.items ++ flat_map (interval_lines_of l.program l.signed l.signature l.phase.0) (drop l.interval-index l.intervals)
    ≡ l.fn.out.items ++ flat_map (interval_lines_of l.program l.signed l.signature l.phase.0) l.intervals
