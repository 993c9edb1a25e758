use Rattle.page_data.proofs.Declared.{one-list}
use Rattle.page_data.proofs.laws.each_task_declares_one_item.Goals as goal

pub returns : goal.returns
returns c = one-list
