use Rattle.std.proofs.Common.{◌≡◌, drop}
use Rattle.std.specs.List.{find}
use Rattle.sentences.specs.Findings.{is_number_behind}
use Rattle.sentences.proofs.operands.number_behind.Given as goal

-- none so far is a number
abbrev pub invariant-loop-token : goal.invariant-loop-token
invariant-loop-token l = find (is_number_behind l.place) (drop l.token-index l.tokens) ≡ find (is_number_behind l.place) l.tokens
