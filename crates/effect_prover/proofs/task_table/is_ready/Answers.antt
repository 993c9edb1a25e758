use Rattle.std.proofs.Common.{Option, sym, subst}
use Rattle.std.proofs.lemmas.Bool.{eqb-true}
use Rattle.effect_prover.specs.declared.task_table.TaskTable.{TaskTable}
use Rattle.effect_prover.specs.Kept.{IsTableKept, IsTableReady}
use Rattle.effect_prover.proofs.task_table.is_ready.Goals as goal

pub returns-then-kept-task : goal.returns-then-kept-task
returns-then-kept-task c =
    λ e P k.
    subst (λ (o : Option TaskTable). IsTableReady P c.args.task.now o) (sym c.in-Some.is)
    ((subst (λ (o : Option TaskTable). IsTableKept P o) c.in-Some.is k) c.args.task.now (sym c.if-kept-task.true) (sym (eqb-true c.in-Some.kept.arg c.args.task.now.arg e)))
