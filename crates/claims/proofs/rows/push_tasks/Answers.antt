use Rattle.std.proofs.Common.{rules, arith}
use Rattle.claims.specs.Rows.{FailsTasks}
use Rattle.claims.proofs.Parts.{tasks_fail}
use Rattle.claims.proofs.rows.push_tasks.Goals as goal

pub returns-in_err-rest-clause-err : goal.returns-in_err-rest-clause-err
returns-in_err-rest-clause-err c =
    let fails : FailsTasks c.args.bytes.now c.args.count c.in_err-rest.field-0.0 =
    tasks_fail c.args.bytes.now c.loop-number.rest.now c.args.count c.loop-number.number c.loop-number.tasks c.in_err-rest.field-0.0 c.loop-number.invariant.stand c.loop-number.invariant.all (omega arith) c.in_err-rest.ensures.err in
    search rules
