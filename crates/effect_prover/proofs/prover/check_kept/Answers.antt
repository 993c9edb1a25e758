use Rattle.std.proofs.Common.{List, Bool, Option, subst}
use Rattle.std.proofs.lemmas.Result.{IfOk-weaker}
use Rattle.effect_prover.specs.declared.task_table.TaskTable.{TaskTable}
use Rattle.effect_prover.specs.Table.{Table}
use Rattle.effect_prover.specs.Blocks.{filled}
use Rattle.effect_prover.specs.Inside.{IsFirstOutside}
use Rattle.effect_prover.specs.Kept.{AreLeaderRows, IsTableReady}
use Rattle.effect_prover.specs.Answer.{IsTaskAnswer}
use Rattle.effect_prover.proofs.AnswerLemmas.{task-answer}
use Rattle.effect_prover.proofs.prover.check_kept.Goals as goal

pub returns : goal.returns
returns c =
    let P = c.args.program.now in
    let d = c.args.task.now in
    let L = c.in-Some.table.leaders.items in
    let t = c.in-Some.table.rows.items in
    let ready : AreLeaderRows P d L t = subst (λ (o : Option TaskTable). IsTableReady P d o) c.in-Some.is c.requires.ready in
    let L' = c.as_slice.result.now in
    let t' = c.as_slice-2.result.now in
    IfOk-weaker c.first_outside.result (IsFirstOutside P d (filled P L' t')) (IsTaskAnswer P d)
    (λ place first. task-answer P d (filled P L t) place ready.least
    (subst (λ (rows : Table). IsFirstOutside P d (filled P L rows) place) c.as_slice-2.ensures.value
    (subst (λ (leaders : List Bool). IsFirstOutside P d (filled P leaders t') place) c.as_slice.ensures.value first)))
    c.first_outside.ensures
