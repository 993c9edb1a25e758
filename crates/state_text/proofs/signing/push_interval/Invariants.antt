use Rattle.std.proofs.Common.{◌≡◌, ◌-◌, ◌++◌, flat_map}
use Rattle.std.specs.List.{range_with_len}
use Rattle.state_text.specs.Parts.{signed_line}
use Rattle.state_text.proofs.signing.push_interval.Given as goal

abbrev pub invariant-loop-word : goal.invariant-loop-word
invariant-loop-word l =
    l.out.items ++ flat_map (signed_line l.program l.signed l.signature l.phase.0) (range_with_len l.word (l.fn.interval.hi - l.word))
    ≡ l.fn.out.items ++ flat_map (signed_line l.program l.signed l.signature l.phase.0) (range_with_len l.fn.interval.lo (l.fn.interval.hi - l.fn.interval.lo))
