use Rattle.std.proofs.Common.{take}
use Rattle.rv_core.specs.Access.{under}
use Rattle.effect_prover.specs.Stretch.{IsStretch}
use Rattle.effect_prover.proofs.usable.end_under.Given as goal

abbrev pub invariant-loop-lock : goal.invariant-loop-lock
invariant-loop-lock l = IsStretch (under (take l.lock l.sets) 0 l.held) l.word l.end
