use Rattle.sentences.proofs.CauseLemmas.{free-may, held-may, not-held, read-under, read-only, is-undeclared}
use Rattle.sentences.proofs.laws.what_is_said_of_own_effects_holds.Goals as goal

pub returns-clause-held : goal.returns-clause-held
returns-clause-held c = λ a d held w lock. held-may a d held w lock

pub returns-clause-not_held : goal.returns-clause-not_held
returns-clause-not_held c = λ a d held w lock. not-held a d held w lock

pub returns-clause-read_under : goal.returns-clause-read_under
returns-clause-read_under c = λ a d held w lock. read-under a d held w lock

pub returns-clause-read_only : goal.returns-clause-read_only
returns-clause-read_only c = λ a d held w. read-only a d held w

pub returns-clause-undeclared : goal.returns-clause-undeclared
returns-clause-undeclared c = λ a d w. is-undeclared a d w

pub returns-clause-free : goal.returns-clause-free
returns-clause-free c = λ a d held w. free-may a d held w
