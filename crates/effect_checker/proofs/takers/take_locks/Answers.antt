use Rattle.effect_checker.proofs.TakerLemmas.{same-words}
use Rattle.effect_checker.proofs.takers.take_locks.Goals as goal

pub take_all_guarded-requires-clause-within : goal.take_all_guarded-requires-clause-within
take_all_guarded-requires-clause-within c = same-words _ _ c.args.tasks.now c.loop-lock.invariant.kept.words c.requires.within
