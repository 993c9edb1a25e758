use Rattle.state_text.proofs.Exact.{none-exactly}
use Rattle.state_text.proofs.Held.{stands}
use Rattle.state_text.proofs.standing.reason_against.Goals as goal

pub returns-clause-holds : goal.returns-clause-holds
returns-clause-holds c = rw c.first_reason.ensures (stands c.args.machine.now.state c.args.event.now)

pub returns-clause-none : goal.returns-clause-none
returns-clause-none c =
    rw c.first_reason.ensures
    (none-exactly c.args.machine.now.state c.args.event.now (λ core n is. (c.a_machine_is_kept.ensures.sound.machine.node core n is).fits))
