use Rattle.run_replay.proofs.UnderWay.{one-replay}
use Rattle.run_replay.proofs.laws.events_have_one_replay.Goals as goal

pub returns : goal.returns
returns c = one-replay
