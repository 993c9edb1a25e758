use Rattle.machine_rules.proofs.Accepted.{locks-ordered, barrier-ordered}
use Rattle.machine_rules.proofs.litmus.ordered_accesses_are_no_data_race.Goals as goal

pub returns-clause-locks : goal.returns-clause-locks
returns-clause-locks c = locks-ordered

pub returns-clause-barrier : goal.returns-clause-barrier
returns-clause-barrier c = barrier-ordered
