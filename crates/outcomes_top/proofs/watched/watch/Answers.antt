use Rattle.std.proofs.Common.{suc, ◌++◌, replicate, None, ap, ◌∙◌}
use Rattle.common_outcomes.specs.Alone.{Alone, alone_steps, alone}
use Rattle.outcomes_top.specs.Reasons.{origins_from, origins_alone, takings_from, takings_of}
use Rattle.outcomes_top.proofs.watched.watch.Goals as goal

pub returns-clause-value : goal.returns-clause-value
unfolding alone
returns-clause-value c =
    let S = c.args.place.now in
    c.in_ok-run.ensures.value ∙ ap (alone_steps S (suc S.fuel)) c.in_ok-new.ensures

pub returns-clause-origins : goal.returns-clause-origins
unfolding origins_alone
returns-clause-origins c =
    let S = c.args.place.now in
    c.in_ok-run.ensures.origins ∙ ap (λ (a : Alone). origins_from S (suc S.fuel) a (replicate 32 None)) c.in_ok-new.ensures

pub returns-clause-takings : goal.returns-clause-takings
unfolding takings_of
returns-clause-takings c =
    let S = c.args.place.now in
    c.in_ok-run.ensures.takings ∙ ap (λ (a : Alone). c.args.takings.items ++ takings_from S (suc S.fuel) a) c.in_ok-new.ensures
