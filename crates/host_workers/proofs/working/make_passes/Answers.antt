use Rattle.std.proofs.Common.{refl, ◌∙◌, arith}
use Rattle.registration_protocol.specs.Setting.{setting}
use Rattle.host_workers.proofs.Passing.{worked-on}
use Rattle.host_workers.proofs.working.make_passes.Goals as goal

pub loop-passes-init : goal.loop-passes-init
loop-passes-init g c = record {
  pass = (c.requires.may.pass_is, refl);
  crew = c.requires.crew;
  idle = omega arith;
  began = λ e. (refl, refl);
  worked = λ some. absurd (omega (arith, some));
}

pub worker_pass-requires-clause-may : goal.worker_pass-requires-clause-may
worker_pass-requires-clause-may g c = record {
  context = c.requires.may.context;
  pass_is = c.loop-passes.invariant.pass.0;
  ports = c.requires.may.ports;
  banks = c.requires.may.banks;
}

pub returns-then-idle-ge-IDLE_PASSES-clause-pass : goal.returns-then-idle-ge-IDLE_PASSES-clause-pass
returns-then-idle-ge-IDLE_PASSES-clause-pass g c = (c.worker_pass.ensures.pass.0, c.worker_pass.ensures.pass.1 ∙ c.loop-passes.invariant.pass.1)

pub returns-then-idle-ge-IDLE_PASSES-clause-worked : goal.returns-then-idle-ge-IDLE_PASSES-clause-worked
returns-then-idle-ge-IDLE_PASSES-clause-worked g c =
    let had = c.loop-passes.invariant in
    worked-on (setting c.args.context.now) c.args.job.now.pass c.loop-passes.job.pass c.worker_pass.new.pass c.args.job.now.crew c.loop-passes.job.crew c.worker_pass.new.crew c.loop-passes.passes c.in_ok-made.made had.began had.worked had.pass.1 c.in_ok-made.ensures.worked

pub loop-passes-preserved : goal.loop-passes-preserved
loop-passes-preserved g c =
    let had = c.loop-passes.invariant in
    let busy = c.if-idle-ge-IDLE_PASSES.false in record {
      pass = (c.in_ok-made.ensures.pass.0, c.in_ok-made.ensures.pass.1 ∙ had.pass.1);
      crew = c.in_ok-made.ensures.crew;
      idle = omega (arith, busy);
      began = λ e. absurd (omega (arith, e));
      worked = λ some. worked-on (setting c.args.context.now) c.args.job.now.pass c.loop-passes.job.pass c.worker_pass.new.pass c.args.job.now.crew c.loop-passes.job.crew c.worker_pass.new.crew c.loop-passes.passes c.in_ok-made.made had.began had.worked had.pass.1 c.in_ok-made.ensures.worked;
    }
