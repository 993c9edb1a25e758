use Rattle.registry_bank.proofs.KeptLemmas.{other-kind}
use Rattle.registry_bank.proofs.laws.other_kinds_change_nothing.Goals as goal

pub returns : goal.returns
returns c = other-kind
