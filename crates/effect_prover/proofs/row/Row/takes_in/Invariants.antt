use Rattle.std.proofs.Common.{◌<◌, ℕ}
use Rattle.effect_prover.specs.Row.{range_of}
use Rattle.effect_prover.specs.Sweep.{IsJoinedRange}
use Rattle.effect_prover.proofs.row.Row.takes_in.Given as goal

abbrev pub invariant-loop-number : goal.invariant-loop-number
invariant-loop-number l = (r : ℕ) → r < l.number → IsJoinedRange l.head l.argument (range_of l.self r) (range_of l.given r) (range_of l.self r)
