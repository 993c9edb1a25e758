use Rattle.std.proofs.Common.{◌≡◌, ◌+◌, ◌≤◌, take, count_by}
use Rattle.src_text.specs.Byte.{is_newline}
use Rattle.explained_answer.proofs.fronts.line_behind.Given as goal

abbrev pub invariant-loop-byte : goal.invariant-loop-byte
invariant-loop-byte l = record { counted : l.line ≡ count_by is_newline (take l.byte-index l.front) + 1; few : l.line ≤ l.byte-index + 1 }
