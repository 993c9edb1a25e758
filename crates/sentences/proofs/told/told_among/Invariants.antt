use Rattle.std.proofs.Common.{take}
use Rattle.sentences.specs.Told.{AreToldOf}
use Rattle.sentences.proofs.told.told_among.Given as goal

-- what is told of the lines so far
abbrev pub invariant-loop-line : goal.invariant-loop-line
invariant-loop-line l = AreToldOf l.text (take l.line-index l.effects) l.told
