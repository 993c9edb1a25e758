use Rattle.std.proofs.Common.{◌≡◌, drop}
use Rattle.std.specs.List.{list_any}
use Rattle.explained_answer.specs.Lines.{lines_in}
use Rattle.explained_answer.specs.Reasons.{is_open_line}
use Rattle.explained_answer.proofs.reasons.has_open.Given as goal

-- none so far says that the answer is open
abbrev pub invariant-loop-read : goal.invariant-loop-read
invariant-loop-read l = list_any is_open_line (lines_in (drop l.read-index l.lines)) ≡ list_any is_open_line (lines_in l.lines)
