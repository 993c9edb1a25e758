use Rattle.std.proofs.Common.{sym, subst, IfOk}
use Rattle.machine_rules.specs.State.{State}
use Rattle.host_workers.specs.RoundOf.{IsMadeByWorkers}
use Rattle.host_workers.proofs.RunSoFar.{begins}
use Rattle.host_workers.proofs.run.run_keeping_machine.Goals as goal

pub recorded_run-requires-clause-far : goal.recorded_run-requires-clause-far
recorded_run-requires-clause-far g c κs within = rw (c.in-Ok.ensures) (begins c.args.machine c.a_machine_is_kept.ensures c.requires.made)

pub returns-in-Ok-clause-made : goal.returns-in-Ok-clause-made
returns-in-Ok-clause-made g c =
    let first = c.a_machine_is_kept.ensures.first c.requires.made in
    subst (λ (S : State). IfOk c.recorded_run.result (IsMadeByWorkers S)) (sym first) c.recorded_run.ensures.made
