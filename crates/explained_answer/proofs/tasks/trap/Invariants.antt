use Rattle.std.proofs.Common.{take}
use Rattle.std.specs.List.{All}
use Rattle.rv_core.specs.declared.task.TrapKind.{TrapKind}
use Rattle.text_pieces.specs.Field.{NoneStands}
use Rattle.explained_answer.specs.AnswerLines.{HasTrapNumbers, trap_front, trap_rest}
use Rattle.explained_answer.proofs.tasks.trap.Given as goal

-- no trap of a kind so far stands there
abbrev pub invariant-loop-kind : goal.invariant-loop-kind
invariant-loop-kind l = All (λ (k : TrapKind). NoneStands HasTrapNumbers (trap_rest (trap_front k)) l.bytes) (take l.kind-index l.kind-items)
