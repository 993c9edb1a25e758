use Rattle.std.proofs.Common.{◌≡◌, ◌+◌, ◌≤◌, [], length}
use Rattle.src_text.specs.Line.{cut}
use Rattle.explained_answer.specs.Verdicts.{verdict_from}
use Rattle.explained_answer.proofs.verdicts.explained_lines.Given as goal

abbrev pub invariant-loop-rest : goal.invariant-loop-rest
invariant-loop-rest l =
    (l.number + length l.rest ≤ length l.answer + 1)
    × (verdict_from l.text l.located l.on_answer l.number l.out.items (cut l.rest) ≡ verdict_from l.text l.located l.on_answer 1 [] (cut l.answer))

abbrev pub decreases-loop-rest : goal.decreases-loop-rest
decreases-loop-rest l = length l.rest
