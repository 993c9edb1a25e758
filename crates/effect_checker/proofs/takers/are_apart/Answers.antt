use Rattle.effect_checker.proofs.TakerLemmas.{same-words, none_guarded_plain}
use Rattle.effect_checker.proofs.takers.are_apart.Goals as goal

pub take_locks-requires-clause-within : goal.take_locks-requires-clause-within
take_locks-requires-clause-within c = same-words 65536 _ c.args.tasks.now c.take_all_plain.auto.takers c.requires.within

pub returns-then-take_all_plain-clause-plain : goal.returns-then-take_all_plain-clause-plain
returns-then-take_all_plain-clause-plain c = λ h.
    none_guarded_plain c.args.tasks.now c.args.locks c.take_all_plain.new.takers c.take_locks.new.takers c.requires.locks (c.take_all_plain.ensures.taken c.if-take_all_plain.true) c.take_locks.ensures.kept
    (c.take_locks.ensures.taken h)
