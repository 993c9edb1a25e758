use Rattle.std.proofs.Common.{sym}
use Rattle.effect_prover.proofs.task_table.keep.Goals as goal

pub returns-clause-ready : goal.returns-clause-ready
returns-clause-ready c = c.in_ok-table_of.ensures.table c.args.task.now (sym c.in_ok-table_of.ensures.entry) (sym c.in_ok-table_of.ensures.argument)
