use Rattle.std.proofs.Common.{◌≡◌, map, take}
use Rattle.referee_top.specs.Settled.{no_number}
use Rattle.referee_top.proofs.settled.zeros.Given as goal

abbrev pub invariant-loop-value : goal.invariant-loop-value
invariant-loop-value l = l.words ≡ map no_number (take l.value-index l.memory)
