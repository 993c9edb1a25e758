use Rattle.machine_rules.proofs.RunsCoherent.{well-shows}
use Rattle.machine_rules.proofs.laws.a_state_shows_the_stores_of_its_run.Goals as goal

pub returns : goal.returns
returns c = well-shows
