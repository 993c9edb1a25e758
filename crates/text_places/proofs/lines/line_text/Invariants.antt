use Rattle.std.proofs.Common.{length, ◌-◌, ◌+◌, ◌≤◌}
use Rattle.text_places.proofs.CutLemmas.{IsLeft}
use Rattle.text_places.proofs.lines.line_text.Given as goal

-- what is left begins with the line `number`, and has the line that is looked for, if the text has it
abbrev pub invariant-loop-start : goal.invariant-loop-start
invariant-loop-start l =
    (1 ≤ l.number)
    × (l.number ≤ l.start + 1)
    × (l.start ≤ length l.text + 1)
    × IsLeft l.text l.line l.number l.start

abbrev pub decreases-loop-start : goal.decreases-loop-start
decreases-loop-start l = length l.text - l.start
