use Rattle.std.proofs.Common.{refl}
use Rattle.explained_answer.proofs.SeveralLemmas.{answer-at}
use Rattle.explained_answer.proofs.several.answer_end.Goals as goal

pub returns-clause-first : goal.returns-clause-first
returns-clause-first c = answer-at c.args.lines.now c.args.start c.before_next.result _ c.requires c.before_next.ensures.value refl
