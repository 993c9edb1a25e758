use Rattle.dn_machine.proofs.content.Content.core_sends.Goals as goal

pub own_at-own-requires-clause-fits : goal.own_at-own-requires-clause-fits
own_at-own-requires-clause-fits c = λ n here. c.requires.whole.fits c.args.core.0 n (rw c.as_slice.ensures.value at here)
