use Rattle.std.proofs.Common.{length, ◌+◌, ◌≤◌}
use Rattle.explained_answer.specs.Lines.{AreLinesRead}
use Rattle.explained_answer.proofs.parsing.read_answer.Given as goal

-- the lines so far were read, and each has a byte
abbrev pub invariant-lines : goal.invariant-lines
invariant-lines l = AreLinesRead l.located l.bytes l.lines.items l.rest × (length l.lines.items + length l.rest ≤ length l.bytes)

abbrev pub decreases-lines : goal.decreases-lines
decreases-lines l = length l.rest
