use Rattle.run_replay.proofs.UnderWay.{replay-of}
use Rattle.run_replay.proofs.replaying.replay.Goals as goal

pub returns : goal.returns
returns c =
    replay-of c.args.checked c.args.shape c.args.fuel c.args.events.now c.in_ok-machine.machine c.replay_on.result c.in_ok-machine.ensures c.a_machine_is_kept.ensures c.replay_on.ensures.is_true
