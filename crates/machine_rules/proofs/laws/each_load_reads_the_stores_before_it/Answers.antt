use Rattle.machine_rules.proofs.RunsCoherent.{well-loads}
use Rattle.machine_rules.proofs.laws.each_load_reads_the_stores_before_it.Goals as goal

pub returns : goal.returns
returns c = well-loads
