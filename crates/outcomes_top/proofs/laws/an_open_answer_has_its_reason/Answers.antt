use Rattle.outcomes_top.proofs.BecauseLemmas.{open-has_reason, reason-opens}
use Rattle.outcomes_top.proofs.laws.an_open_answer_has_its_reason.Goals as goal

pub returns-clause-some : goal.returns-clause-some
returns-clause-some c = open-has_reason

pub returns-clause-why : goal.returns-clause-why
returns-clause-why c = reason-opens
