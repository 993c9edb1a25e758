use Rattle.std.proofs.Common.{◌≤◌, List, length, sym, subst}
use Rattle.message_net.specs.declared.event.Event.{Event}
use Rattle.checked_runs.proofs.ReplayedRun.{replay-told}
use Rattle.checked_runs.proofs.documents.replayed_on.Goals as goal

pub returns-clause-replay : goal.returns-clause-replay
returns-clause-replay c =
    replay-told c.args.trace.now c.args.machine.now c.as_slice.result.now c.replay_on.result c.requires.machine c.a_machine_is_kept.ensures c.as_slice.ensures c.replay_on.ensures.is_true
