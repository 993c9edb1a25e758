use Rattle.run_account.proofs.Whole.{number-of-run}
use Rattle.run_account.proofs.laws.a_run_has_the_numbers_of_its_account.Goals as goal

pub returns : goal.returns
returns c = number-of-run
