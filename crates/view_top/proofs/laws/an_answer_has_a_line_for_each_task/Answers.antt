use Rattle.view_top.proofs.TaskLines.{each-line}
use Rattle.view_top.proofs.laws.an_answer_has_a_line_for_each_task.Goals as goal

pub returns : goal.returns
returns c = each-line
