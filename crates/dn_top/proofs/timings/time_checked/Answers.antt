use Rattle.std.proofs.Common.{IfOk, subst}
use Rattle.region_table.specs.Program.{ProgramParts}
use Rattle.dn_top.specs.Runs.{with_one_worker, IsTimedRun}
use Rattle.dn_top.proofs.RunOf.{at_shape, at-own}
use Rattle.dn_top.proofs.timings.time_checked.Goals as goal

pub time_on-timed-requires-clause-initial : goal.time_on-timed-requires-clause-initial
time_on-timed-requires-clause-initial c =
    let m = c.in_ok-machine.machine in
    at-own c.args.checked c.args.options.now m (at_shape c.args.checked c.program.result.now c.args.options.now c.shape_of-shape.result m c.in_ok-machine.ensures c.shape_of-shape.ensures c.program.ensures.value)

pub returns : goal.returns
returns c =
    subst (λ (p : ProgramParts). IfOk c.time_on-timed.result (IsTimedRun p (with_one_worker c.args.options.now))) c.in_ok-machine.ensures.program_is c.time_on-timed.ensures
