use Rattle.std.proofs.Common.{ℕ, Bool, ◌&&◌, if◌then◌else◌, Some, None, option_map, sym, ap, ◌∙◌}
use Rattle.std.specs.List.{find}
use Rattle.std.proofs.lemmas.Bool.{eq-eqb}
use Rattle.rv_core.specs.Access.{is_held}
use Rattle.common_outcomes.specs.Answer.{locks_up_to}
use Rattle.outcomes_top.specs.declared.reasons.Sought.{Sought}
use Rattle.outcomes_top.specs.Reasons.{is_way, taken, sought_in}
use Rattle.outcomes_top.proofs.takings.sought_in.Goals as goal

pub returns-in-Back : goal.returns-in-Back
returns-in-Back c = λ rs are.
    let found = option_map (λ (k : ℕ). taken c.args.taking (Some k)) (find (λ (k : ℕ). is_held c.args.taking.held k && is_way rs c.in-Back.lock.0 k) locks_up_to) in
    c.back.ensures rs are ∙ sym (ap (λ (b : Bool). if b then found else None) (eq-eqb c.args.taking.lock.0 c.in-Back.lock.0 c.if-taking-lock-3.true)) ∙ ap (λ (s : Sought). sought_in rs s c.args.taking) (sym c.in-Back.is)
