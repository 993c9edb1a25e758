use Rattle.registration_protocol.specs.Setting.{setting}
use Rattle.host_workers.specs.Crews.{IsCrew}
use Rattle.host_workers.specs.Work.{MayAct}
use Rattle.part_tests.proofs.passes.eight_passes.Given as goal

abbrev pub invariant-loop-answer : goal.invariant-loop-answer
invariant-loop-answer g l = record {
  may : MayAct (setting l.context) l.hall l.pass;
  crew : IsCrew (setting l.context) l.crew;
}
