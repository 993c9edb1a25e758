use Rattle.host_workers.proofs.Owning.{have-owners}
use Rattle.host_workers.proofs.laws.steps_are_of_owners.Goals as goal

pub returns : goal.returns
returns c = λ C S T r joined. have-owners C S T r joined.some joined.worked
