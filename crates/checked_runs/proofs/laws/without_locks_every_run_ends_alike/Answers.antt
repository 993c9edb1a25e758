use Rattle.checked_runs.proofs.RunOf.{ends-alike}
use Rattle.checked_runs.proofs.laws.without_locks_every_run_ends_alike.Goals as goal

pub returns : goal.returns
returns c = ends-alike
