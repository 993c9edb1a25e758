use Rattle.std.proofs.Common.{ℕ, ap, ◌∙◌}
use Rattle.std.specs.Option.{option_map}
use Rattle.common_outcomes.specs.declared.answer.Open.TheVariants.{Stuck}
use Rattle.outcomes_top.proofs.LockLemmas.{stuck-found}
use Rattle.outcomes_top.proofs.circles.first_stuck.Goals as goal

pub returns-in-Some : goal.returns-in-Some
returns-in-Some c =
    ap (option_map (λ (l : ℕ). Stuck c.args.phase (record { 0 = l }))) c.in-Some.ensures ∙ stuck-found c.args.phase.0 c.args.all.now c.all_leading-rows.result c.all_leading-rows.ensures

pub returns-in-None : goal.returns-in-None
returns-in-None c =
    ap (option_map (λ (l : ℕ). Stuck c.args.phase (record { 0 = l }))) c.in-None.ensures ∙ stuck-found c.args.phase.0 c.args.all.now c.all_leading-rows.result c.all_leading-rows.ensures
