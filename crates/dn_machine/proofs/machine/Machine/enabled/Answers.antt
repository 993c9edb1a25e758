use Rattle.dn_machine.proofs.machine.Machine.enabled.Goals as goal

pub is_enabled-requires-clause-fits : goal.is_enabled-requires-clause-fits
is_enabled-requires-clause-fits c = λ core n here. rw c.context_of-context.ensures (c.self.invariant.0.sound.machine.node core n here).fits
