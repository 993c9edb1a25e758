use Rattle.run_changes.proofs.Keepers.{keeper-led}
use Rattle.run_changes.proofs.laws.the_keeper_follows_its_changes.Goals as goal

pub returns : goal.returns
returns c = keeper-led
