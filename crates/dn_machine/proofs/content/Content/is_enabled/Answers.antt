use Rattle.dn_machine.proofs.content.Content.is_enabled.Goals as goal

pub may_give_up-requires-clause-fits : goal.may_give_up-requires-clause-fits
may_give_up-requires-clause-fits c = λ core n here. c.requires.fits core n (rw c.as_slice-in-Evict.ensures.value at here)
