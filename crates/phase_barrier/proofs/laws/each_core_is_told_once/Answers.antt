use Rattle.phase_barrier.proofs.LetterLemmas.{letters-to_core, letters-to_others}
use Rattle.phase_barrier.proofs.laws.each_core_is_told_once.Goals as goal

pub returns-clause-own : goal.returns-clause-own
returns-clause-own c = letters-to_core

pub returns-clause-other : goal.returns-clause-other
returns-clause-other c = letters-to_others
