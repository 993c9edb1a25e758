use Rattle.sweep_top.proofs.AnswerLemmas.{are-the-answers}
use Rattle.sweep_top.proofs.laws.each_answer_is_counted_once.Goals as goal

pub returns : goal.returns
returns c = are-the-answers
