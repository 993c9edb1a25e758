use Rattle.flat_machine.proofs.ReachedLaws.{front-has}
use Rattle.flat_machine.proofs.laws.a_front_of_a_list_has_a_value.Goals as goal

pub returns : goal.returns
returns c = front-has
