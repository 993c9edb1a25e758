use Rattle.std.proofs.Common.{◌≡◌, ℕ, List, Option, drop, sym, ap, ◌∙◌}
use Rattle.run_chart.specs.declared.parts.ChartRow.{ChartRow}
use Rattle.run_chart.specs.Slides.{place_or_first}
use Rattle.run_chart.proofs.Fitting.{rest_is}
use Rattle.run_chart.proofs.slides.from_first.Goals as goal

pub returns-in-Some : goal.returns-in-Some
returns-in-Some c = rest_is c.args.rows.now c.in-Some.place ∙ ap (λ (o : Option ℕ). drop (place_or_first o) c.args.rows.now) (sym c.in-Some.is ∙ c.first_place.ensures)

pub returns-in-None : goal.returns-in-None
returns-in-None c = ap (λ (o : Option ℕ). drop (place_or_first o) c.args.rows.now) (sym c.in-None.is ∙ c.first_place.ensures)
