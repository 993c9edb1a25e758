use Rattle.std.proofs.Common.{sym, ◌∙◌, Decides}
use Rattle.std.proofs.lemmas.Result.{IfOk-weaker}
use Rattle.std.proofs.lemmas.Option.{none-some}
use Rattle.effect_prover.specs.Blocks.{filled}
use Rattle.effect_prover.specs.Inside.{IsInside, IsInsideAt}
use Rattle.effect_prover.proofs.AnswerLemmas.{word-missing, word-decided}
use Rattle.effect_prover.proofs.BlockLemmas.{filled-at}
use Rattle.effect_prover.proofs.prover.place_is_inside.Goals as goal

pub returns-in_default-clause-answer : goal.returns-in_default-clause-answer
returns-in_default-clause-answer c =
    let P = c.args.program.now in
    let L = c.args.leaders.now in
    let t = c.args.rows.now in
    word-missing P c.args.task.now (filled P L t) c.args.place
    (λ row instr is there. none-some row (sym c.in_default.is ∙ c.requires.here ∙ sym (filled-at P L t c.args.place c.requires.within) ∙ is))

pub returns-clause-answer : goal.returns-clause-answer
returns-clause-answer c =
    let P = c.args.program.now in
    let L = c.args.leaders.now in
    let t = c.args.rows.now in
    IfOk-weaker c.is_inside.result (λ inside. Decides inside (IsInside P c.args.task.now c.in-Some.row c.in-Some-instr_at.instr)) (λ inside. Decides inside (IsInsideAt P c.args.task.now (filled P L t) c.args.place))
    (λ inside decided. word-decided P c.args.task.now (filled P L t) c.args.place c.in-Some.row c.in-Some-instr_at.instr inside
    (filled-at P L t c.args.place c.requires.within ∙ sym c.requires.here ∙ c.in-Some.is) (sym c.instr_at.ensures.value ∙ c.in-Some-instr_at.is) decided)
    c.is_inside.ensures.answer
