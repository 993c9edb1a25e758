use Rattle.dn_machine.proofs.PickLaws.{pick-comes, pick-none, over-pick}
use Rattle.dn_machine.proofs.laws.a_pick_is_an_event_that_may_come.Goals as goal

pub returns-clause-comes : goal.returns-clause-comes
returns-clause-comes c = pick-comes

pub returns-clause-none : goal.returns-clause-none
returns-clause-none c S draw good = ((λ is. pick-none S draw good is), (λ over. over-pick S draw good over))
