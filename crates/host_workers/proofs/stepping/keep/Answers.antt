use Rattle.registration_protocol.specs.Setting.{setting}
use Rattle.host_workers.proofs.Turning.{kept-not, kept-if, kept-partly-if}
use Rattle.host_workers.proofs.stepping.keep.Goals as goal

pub returns-in-None-clause-stepped : goal.returns-in-None-clause-stepped
returns-in-None-clause-stepped g c = rw c.in-None.is (kept-not (setting c.args.context.now) c.args.pass.now)

pub returns-in-Some-clause-stepped : goal.returns-in-Some-clause-stepped
returns-in-Some-clause-stepped g c = rw c.in-Some.is (kept-if (setting c.args.context.now) c.args.pass.now c.step_keeper.new.pass c.in-Some.log.items c.step_keeper.new.log.items c.step_keeper.result c.step_keeper.ensures.stepped)

pub returns-in-Some-clause-part : goal.returns-in-Some-clause-part
returns-in-Some-clause-part g c = rw c.in-Some.is (kept-partly-if (setting c.args.context.now) c.args.pass.now c.step_keeper.new.pass c.in-Some.log.items c.step_keeper.new.log.items c.step_keeper.result c.step_keeper.ensures.part)
