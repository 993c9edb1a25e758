use Rattle.run_account.proofs.Numbers.{number-is}
use Rattle.run_account.proofs.table_laws.a_number_is_a_count.Goals as goal

pub returns : goal.returns
returns c = number-is
