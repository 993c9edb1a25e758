use Rattle.effect_prover.proofs.TableLemmas.{one-least, not-both}
use Rattle.effect_prover.proofs.laws.a_task_has_one_least_table.Goals as goal

pub returns-clause-one : goal.returns-clause-one
returns-clause-one c = one-least

pub returns-clause-either : goal.returns-clause-either
returns-clause-either c = not-both
