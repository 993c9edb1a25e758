use Rattle.rv_assembler.specs.Declarations.{meaning_of}
use Rattle.rv_assembler.specs.Source.{sayings, readings}
use Rattle.rv_assembler.specs.Tables.{region_at, lock_name_at, tasks_at}
use Rattle.text_places.specs.Places.{own_line, task_place, phase_row}
use Rattle.sentences.proofs.OriginLemmas.{row-of_line}
use Rattle.sentences.proofs.laws.each_part_comes_from_its_line.Goals as goal

pub returns-clause-regions : goal.returns-clause-regions
returns-clause-regions c = λ text number line e. row-of_line (region_at text) own_line (sayings (readings text)) number line e

pub returns-clause-locks : goal.returns-clause-locks
returns-clause-locks c = λ text number line e. row-of_line (lock_name_at text) own_line (sayings (readings text)) number line e

pub returns-clause-phases : goal.returns-clause-phases
returns-clause-phases c = λ text number line e. row-of_line phase_row own_line (sayings (readings text)) number line e

pub returns-clause-tasks : goal.returns-clause-tasks
returns-clause-tasks c = λ text number t e. row-of_line (tasks_at text (meaning_of text (sayings (readings text)))) task_place (sayings (readings text)) number t e
