use Rattle.rv_assembler.proofs.FamilyLemmas.{task-lines, use-lines}
use Rattle.rv_assembler.proofs.language.a_family_has_the_rows_of_its_lines.Goals as goal

pub returns-clause-tasks : goal.returns-clause-tasks
returns-clause-tasks c = task-lines

pub returns-clause-uses : goal.returns-clause-uses
returns-clause-uses c = use-lines
