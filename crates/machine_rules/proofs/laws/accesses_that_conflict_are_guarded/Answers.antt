use Rattle.machine_rules.proofs.Guarded.{well-guarded}
use Rattle.machine_rules.proofs.laws.accesses_that_conflict_are_guarded.Goals as goal

pub returns : goal.returns
returns c = well-guarded
