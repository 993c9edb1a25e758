use Rattle.run_account.proofs.ListWhole.{number-of-run}
use Rattle.run_account.proofs.list_laws.a_run_beside_lists_has_the_numbers_of_its_table.Goals as goal

pub returns : goal.returns
returns c = number-of-run
