use Rattle.effect_checker.proofs.TakerLemmas.{same-words, none_later}
use Rattle.effect_checker.proofs.takers.is_apart_from_later.Goals as goal

pub take_later_locks-requires-clause-within : goal.take_later_locks-requires-clause-within
take_later_locks-requires-clause-within c = same-words 65536 _ c.args.tasks.now c.take_all_guarded.auto.takers c.requires.within

pub returns-then-take_all_guarded : goal.returns-then-take_all_guarded
returns-then-take_all_guarded c = λ h.
    none_later c.args.tasks.now c.args.lock c.args.locks c.take_all_guarded.new.takers c.take_later_locks.new.takers c.requires.locks (c.take_all_guarded.ensures.taken c.if-take_all_guarded.true)
    c.take_later_locks.ensures.kept (c.take_later_locks.ensures.taken h)
