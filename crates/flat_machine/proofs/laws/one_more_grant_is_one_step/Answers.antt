use Rattle.std.proofs.Common.{Some}
use Rattle.flat_machine.specs.Phases.{initial_flat}
use Rattle.flat_machine.proofs.RunLemmas.{grants-push}
use Rattle.flat_machine.proofs.laws.one_more_grant_is_one_step.Goals as goal

pub returns : goal.returns
returns c = λ P fuel gs g. grants-push P fuel (Some (initial_flat P fuel)) gs g
