use Rattle.std.proofs.Common.{◌≡◌, length}
use Rattle.effect_prover.specs.Sweep.{AreMarked}
use Rattle.effect_prover.proofs.sweep.mark_all.Given as goal

abbrev pub invariant-loop-place : goal.invariant-loop-place
invariant-loop-place l = record { words : length l.heads ≡ length l.program.code; marked : AreMarked l.program.code l.place l.heads }
