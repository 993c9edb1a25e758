use Rattle.effect_prover.proofs.prover.first_outside.Goals as goal

pub first_outside_by-requires-clause-kept : goal.first_outside_by-requires-clause-kept
first_outside_by-requires-clause-kept c = c.none-usable.ensures c.args.task.now
