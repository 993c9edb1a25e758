use Rattle.run_account.proofs.Numbers.{with_items-append}
use Rattle.run_account.proofs.table_laws.items_are_counted_list_by_list.Goals as goal

pub returns : goal.returns
returns c = with_items-append
