use Rattle.std.proofs.Common.{List, Bool, subst}
use Rattle.effect_prover.specs.Table.{IsLeastTable}
use Rattle.effect_prover.specs.Blocks.{filled}
use Rattle.effect_prover.proofs.KeptLemmas.{task-table}
use Rattle.effect_prover.proofs.task_table.table_of.Goals as goal

pub returns-clause-table : goal.returns-clause-table
returns-clause-table c =
    let P = c.args.program.now in
    let d = c.args.task.now in
    let t = c.in_ok-rows.rows.items in
    task-table P d c.in_ok-leaders.leaders.items t c.in_ok-leaders.ensures.led c.in_ok-rows.ensures.words
    (subst (λ (L : List Bool). IsLeastTable P d (filled P L t)) c.as_slice.ensures.value c.in_ok-rows.ensures.least)
