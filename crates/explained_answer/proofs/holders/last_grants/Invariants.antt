use Rattle.std.proofs.Common.{◌≡◌, take, length}
use Rattle.explained_answer.specs.Holders.{answer_grants, AreLastGrants}
use Rattle.explained_answer.specs.Lines.{lines_in}
use Rattle.explained_answer.proofs.holders.last_grants.Given as goal

-- the grants so far
abbrev pub invariant-loop-read : goal.invariant-loop-read
invariant-loop-read l =
    AreLastGrants (answer_grants (lines_in (take l.read-index l.lines))) l.last.items × (length l.last.items ≡ length l.located.program.locks)
