use Rattle.std.proofs.Common.{◌≡◌, ◌<◌, ◌≤◌, ℕ}
use Rattle.effect_checker.specs.Takers.{taker_of, KeepTakers}
use Rattle.effect_checker.proofs.takers.take_interval.Given as goal

abbrev pub invariant-loop-word : goal.invariant-loop-word
invariant-loop-word l = record {
  kept : KeepTakers l.initial.takers l.takers;
  taken : (w : ℕ) → l.fn.interval.lo ≤ w → w < l.word → taker_of l.takers w ≡ l.fn.taker;
}
