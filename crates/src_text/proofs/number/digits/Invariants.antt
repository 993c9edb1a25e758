use Rattle.std.proofs.Common.{drop, ◌≡◌, ◌≤◌}
use Rattle.src_text.specs.Number.{value_after, if_at_most}
use Rattle.src_text.proofs.number.digits.Given as goal

abbrev pub invariant-loop-byte : goal.invariant-loop-byte
invariant-loop-byte l =
    (l.value ≤ l.most)
    × (if_at_most l.most (value_after l.base l.value (drop l.byte-index l.bytes)) ≡ if_at_most l.most (value_after l.base 0 l.bytes))
