use Rattle.std.proofs.Common.{◌≡◌, ◌∙◌, ap, map}
use Rattle.std.specs.List.{range_with_len}
use Rattle.std.proofs.lemmas.Result.{IfOk-weaker}
use Rattle.rv_assembler.specs.Finishing.{phase_within}
use Rattle.rv_assembler.specs.ClaimRows.{phase_by_rows}
use Rattle.rv_assembler.proofs.RowPhases.{phases-same}
use Rattle.rv_assembler.proofs.finishing.phases_of.Goals as goal

pub returns : goal.returns
returns c =
    let told = c.in_ok-rows.ensures in
    let tasks = c.args.tasks.now in
    IfOk-weaker c.phases_by.result _ (λ phases. phases ≡ map (phase_within c.args.words c.args.locks c.args.claims.now tasks) (range_with_len 1 c.args.count))
    (λ phases is.
    is
    ∙ (ap (λ rows. map (phase_by_rows c.args.locks rows tasks) (range_with_len 1 c.args.count)) c.as_slice.ensures.value
    ∙ phases-same c.args.words c.args.count c.args.locks c.args.claims.now c.in_ok-rows.rows.items told.claims told.count c.requires.locks tasks))
    c.phases_by.ensures
