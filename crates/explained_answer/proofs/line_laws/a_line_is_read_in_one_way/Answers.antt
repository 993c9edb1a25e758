use Rattle.explained_answer.proofs.OneWay.{one-way}
use Rattle.explained_answer.proofs.line_laws.a_line_is_read_in_one_way.Goals as goal

pub returns : goal.returns
returns c = one-way
