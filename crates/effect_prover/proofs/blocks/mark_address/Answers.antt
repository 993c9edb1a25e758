use Rattle.effect_prover.proofs.blocks.mark_address.Goals as goal

pub returns-in_default-clause-leader : goal.returns-in_default-clause-leader
returns-in_default-clause-leader c = λ i l e. absurd (c.in_default.ensures.none i l e)
