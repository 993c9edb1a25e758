use Rattle.effect_checker.specs.Takers.{KeepTakers}
use Rattle.effect_checker.proofs.TakerLemmas.{AreOwn}
use Rattle.effect_checker.proofs.takers.take_locks.Given as goal

abbrev pub invariant-loop-lock : goal.invariant-loop-lock
invariant-loop-lock l = record {
  kept : KeepTakers l.initial.takers l.takers;
  taken : AreOwn l.tasks l.lock l.takers;
}
