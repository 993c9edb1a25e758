use Rattle.std.proofs.Common.{length, drop, ◌-◌, ◌+◌, ◌≡◌, ◌≤◌}
use Rattle.std.specs.List.{prefix_len}
use Rattle.sentences.specs.Marks.{is_high}
use Rattle.sentences.proofs.marks.high_length.Given as goal

abbrev pub invariant-loop-length : goal.invariant-loop-length
invariant-loop-length l =
    (l.length ≤ length l.bytes)
    × (l.length + prefix_len is_high (drop l.length l.bytes) ≡ prefix_len is_high l.bytes)

abbrev pub decreases-loop-length : goal.decreases-loop-length
decreases-loop-length l = length l.bytes - l.length
