use Rattle.std.proofs.Common.{take}
use Rattle.std.specs.List.{All}
use Rattle.text_pieces.specs.Pieces.{newline}
use Rattle.text_pieces.specs.Field.{NoneStands, field}
use Rattle.explained_answer.specs.declared.line.Count.{Count}
use Rattle.explained_answer.specs.Parts.{IsNumber}
use Rattle.explained_answer.specs.AnswerLines.{count_front}
use Rattle.explained_answer.proofs.words.count.Given as goal

-- no count so far stands there
abbrev pub invariant-loop-of : goal.invariant-loop-of
invariant-loop-of l = All (λ (c : Count). NoneStands IsNumber (field (count_front c) newline) l.bytes) (take l.of-index l.of-items)
