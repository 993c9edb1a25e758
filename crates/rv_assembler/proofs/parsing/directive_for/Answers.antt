use Rattle.std.proofs.Common.{rules}
use Rattle.rv_assembler.proofs.parsing.directive_for.Goals as goal

pub returns-in-Region : goal.returns-in-Region
returns-in-Region c = search rules

pub returns-in-Word : goal.returns-in-Word
returns-in-Word c = search rules

pub returns-in-Lock : goal.returns-in-Lock
returns-in-Lock c = search rules

pub returns-in-Phase : goal.returns-in-Phase
returns-in-Phase c = search rules

pub returns-in-Task : goal.returns-in-Task
returns-in-Task c = search rules

pub returns-in-Forall : goal.returns-in-Forall
returns-in-Forall c = search rules

pub returns-in-Uses : goal.returns-in-Uses
returns-in-Uses c = search rules

pub returns-in-Guarded : goal.returns-in-Guarded
returns-in-Guarded c = search rules
