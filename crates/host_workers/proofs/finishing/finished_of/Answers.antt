use Rattle.std.proofs.Common.{refl}
use Rattle.host_workers.proofs.finishing.finished_of.Goals as goal

pub returns : goal.returns
returns c = record { hold = c.in_ok-objects.ensures; roster = refl; banks = refl; ports = refl; keeper = refl }
