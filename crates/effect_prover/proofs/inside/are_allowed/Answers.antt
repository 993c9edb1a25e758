use Rattle.std.proofs.Common.{length, ap, arith, Decides}
use Rattle.std.proofs.lemmas.Result.{IfOk-weaker}
use Rattle.region_table.specs.Program.{ProgramParts}
use Rattle.effect_prover.specs.Inside.{AreAllowed}
use Rattle.effect_prover.specs.Stretch.{may_use}
use Rattle.effect_prover.proofs.StretchLemmas.{allowed-some}
use Rattle.effect_prover.proofs.inside.are_allowed.Goals as goal

pub returns-clause-answer : goal.returns-clause-answer
returns-clause-answer c =
    let view = ap (λ (p : ProgramParts). length p.memory) c.program.view_is in
    let high = c.if-last-len.false in
    let count = c.len.ensures in
    let words = length c.args.program.now.memory in
    IfOk-weaker c.are_usable.result _ (λ allowed. Decides allowed (AreAllowed (may_use c.args.access c.args.task.now c.args.held) words c.args.width c.args.range))
    (λ allowed decided. allowed-some c.args.access c.args.task.now c.args.held words c.args.width c.args.range c.first_from-first.result c.last_up_to-last.result allowed
    c.last_up_to-last.ensures c.first_from-first.ensures.first c.first_from-first.ensures.within c.if-first-lt-FIRST_DATA_ADDRESS.false (omega arith) decided)
    c.are_usable.ensures.answer
