use Rattle.effect_checker.proofs.TakerLemmas.{same-words, none_plain}
use Rattle.effect_checker.proofs.takers.is_never_plain.Goals as goal

pub take_all_guarded-requires-clause-within : goal.take_all_guarded-requires-clause-within
take_all_guarded-requires-clause-within c = same-words 65536 _ c.args.tasks.now c.take_all_plain.auto.takers c.requires

pub returns-then-take_all_plain : goal.returns-then-take_all_plain
returns-then-take_all_plain c = λ h.
    none_plain c.args.tasks.now c.args.lock c.take_all_plain.new.takers c.take_all_guarded.new.takers (c.take_all_plain.ensures.taken c.if-take_all_plain.true) c.take_all_guarded.ensures.kept
    (c.take_all_guarded.ensures.taken h)
