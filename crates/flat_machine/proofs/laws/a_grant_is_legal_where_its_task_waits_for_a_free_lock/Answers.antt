use Rattle.flat_machine.proofs.LegalLaws.{granted-legal, legal-granted}
use Rattle.flat_machine.proofs.laws.a_grant_is_legal_where_its_task_waits_for_a_free_lock.Goals as goal

pub returns : goal.returns
returns c = λ P fuel gs F g reached. (granted-legal P fuel gs F g reached, legal-granted P fuel gs F g reached)
