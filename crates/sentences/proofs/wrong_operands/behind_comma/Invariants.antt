use Rattle.std.proofs.Common.{◌≡◌, length}
use Rattle.sentences.specs.Operands.{behind_comma}
use Rattle.sentences.proofs.wrong_operands.behind_comma.Given as goal

abbrev pub invariant-loop-rest : goal.invariant-loop-rest
invariant-loop-rest l = behind_comma l.rest ≡ behind_comma l.tokens

abbrev pub decreases-loop-rest : goal.decreases-loop-rest
decreases-loop-rest l = length l.rest
