use Rattle.std.proofs.Common.{◌≡◌, ◌+◌, drop}
use Rattle.sentences.specs.Operands.{wrong_among}
use Rattle.sentences.proofs.wrong_operands.wrong_among.Given as goal

-- what is left leads to the same, and the number is that of the next sort
abbrev pub invariant-loop-sort : goal.invariant-loop-sort
invariant-loop-sort l =
    (wrong_among l.version l.bytes l.number (drop l.sort-index l.sorts) l.rest ≡ wrong_among l.version l.bytes 1 l.sorts l.tokens)
    × (l.number ≡ l.sort-index + 1)
