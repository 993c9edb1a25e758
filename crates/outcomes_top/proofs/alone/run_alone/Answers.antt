use Rattle.std.proofs.Common.{suc, ap, ◌∙◌}
use Rattle.common_outcomes.specs.Alone.{alone_steps, alone}
use Rattle.outcomes_top.proofs.alone.run_alone.Goals as goal

pub returns-clause-value : goal.returns-clause-value
unfolding alone
returns-clause-value c =
    let S = c.args.place.now in
    c.in_ok-run.ensures.value ∙ ap (alone_steps S (suc S.fuel)) c.in_ok-new.ensures
