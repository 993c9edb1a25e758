use Rattle.state_text.proofs.Listed.{listed-exactly, in-place}
use Rattle.state_text.proofs.coming.enabled_events.Goals as goal

pub returns-clause-exactly : goal.returns-clause-exactly
returns-clause-exactly c =
    rw c.in_ok-events.ensures (listed-exactly c.args.machine.now.state (in-place c.args.machine.now.state c.a_machine_is_kept.ensures.sound.machine))
