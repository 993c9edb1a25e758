use Rattle.std.proofs.Common.{take}
use Rattle.std.specs.List.{All}
use Rattle.text_pieces.specs.Pieces.{newline}
use Rattle.message_net.specs.declared.event.EventKind.{EventKind}
use Rattle.text_pieces.specs.Field.{NoneStands, field}
use Rattle.explained_answer.specs.Parts.{IsTicks}
use Rattle.explained_answer.specs.AnswerLines.{kind_front}
use Rattle.explained_answer.proofs.timing.finish.Given as goal

-- no kind so far stands there
abbrev pub invariant-loop-kind : goal.invariant-loop-kind
invariant-loop-kind l = All (λ (k : EventKind). NoneStands IsTicks (field (kind_front k) newline) l.bytes) (take l.kind-index l.kind-items)
