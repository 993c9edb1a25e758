use Rattle.std.proofs.Common.{◌≡◌, ◌<◌}
use Rattle.registration_protocol.specs.Setting.{setting}
use Rattle.host_workers.specs.Crews.{IsCrew}
use Rattle.host_workers.specs.Pass.{HasWorkedOn}
use Rattle.host_workers.specs.Work.{KeepsNumber}
use Rattle.host_workers.proofs.working.make_passes.Given as goal

abbrev pub invariant-loop-passes : goal.invariant-loop-passes
invariant-loop-passes g l = record {
  pass : KeepsNumber l.hall l.fn.job.pass l.job.pass;
  crew : IsCrew (setting l.context) l.job.crew;
  idle : l.idle < 64;
  began : l.passes ≡ 0 → (l.job.pass ≡ l.fn.job.pass) × (l.job.crew ≡ l.fn.job.crew);
  worked : 0 < l.passes → HasWorkedOn (setting l.context) l.fn.job.pass l.job.pass l.fn.job.crew l.job.crew;
}
