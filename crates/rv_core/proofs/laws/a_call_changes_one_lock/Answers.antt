use Rattle.rv_core.proofs.HeldLemmas.{holds-acquired, holds-released}
use Rattle.rv_core.proofs.laws.a_call_changes_one_lock.Goals as goal

pub returns-clause-acquired : goal.returns-clause-acquired
returns-clause-acquired c = holds-acquired

pub returns-clause-released : goal.returns-clause-released
returns-clause-released c = holds-released
