use Rattle.std.proofs.Common.{◌≡◌, ◌++◌, take, drop}
use Rattle.sentences.specs.Operands.{before_comma}
use Rattle.sentences.proofs.wrong_operands.before_comma.Given as goal

-- no comma stands before the place
abbrev pub invariant-loop-place : goal.invariant-loop-place
invariant-loop-place l = take l.place l.tokens ++ before_comma (drop l.place l.tokens) ≡ before_comma l.tokens
