use Rattle.std.proofs.Common.{◌≡◌, drop}
use Rattle.std.specs.List.{find}
use Rattle.sentences.specs.Elsewhere.{is_spelled}
use Rattle.sentences.proofs.elsewhere.word_elsewhere.Given as goal

-- the bytes spell none so far
abbrev pub invariant-loop-word : goal.invariant-loop-word
invariant-loop-word l = find (is_spelled l.bytes) (drop l.word-index l.words) ≡ find (is_spelled l.bytes) l.words
