use Rattle.dn_machine.specs.Schedule.{generator_of}
use Rattle.dn_machine.proofs.ScheduleLaws.{picked-complete, picked-one}
use Rattle.dn_machine.proofs.laws.a_seed_gives_one_complete_run.Goals as goal

pub returns-clause-complete : goal.returns-clause-complete
returns-clause-complete c S made seed events sound is = picked-complete S made (generator_of seed) events sound is

pub returns-clause-one : goal.returns-clause-one
returns-clause-one c S seed events others is other = picked-one S (generator_of seed) events others is other
