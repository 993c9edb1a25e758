use Rattle.outcomes_top.proofs.BesideLemmas.{stands-in}
use Rattle.outcomes_top.proofs.laws.what_is_printed_stands_in_the_answer.Goals as goal

pub returns : goal.returns
returns c = stands-in
