use Rattle.outcomes_top.proofs.PrintedLemmas.{flat-printed}
use Rattle.outcomes_top.proofs.laws.without_locks_the_answer_of_the_flat_machine_is_printed.Goals as goal

pub returns : goal.returns
returns c = flat-printed
