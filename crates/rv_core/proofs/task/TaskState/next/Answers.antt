use Rattle.std.proofs.Common.{ap}
use Rattle.rv_core.proofs.Needs.{need-allowed, need-fuel}
use Rattle.rv_core.proofs.task.TaskState.next.Goals as goal

pub returns-clause-allowed : goal.returns-clause-allowed
returns-clause-allowed c =
    rw (ap (λ n. n.need) c.look.ensures) (need-allowed c.args.program.now c.args.task.now c.args.fuel c.args.self.now)

pub returns-clause-fuel : goal.returns-clause-fuel
returns-clause-fuel c =
    rw (ap (λ n. n.need) c.look.ensures) (need-fuel c.args.program.now c.args.task.now c.args.fuel c.args.self.now)
