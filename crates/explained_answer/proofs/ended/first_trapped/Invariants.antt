use Rattle.std.proofs.Common.{◌≡◌, take}
use Rattle.explained_answer.specs.Ended.{trapped_on, first_by}
use Rattle.explained_answer.specs.Lines.{lines_in}
use Rattle.explained_answer.proofs.ended.first_trapped.Given as goal

-- the first of the lines so far
abbrev pub invariant-loop-read : goal.invariant-loop-read
invariant-loop-read l = l.first ≡ first_by trapped_on (lines_in (take l.read-index l.lines))
