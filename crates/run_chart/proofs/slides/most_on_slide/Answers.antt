use Rattle.std.proofs.Common.{◌≡◌, ℕ, IfOk, subst}
use Rattle.run_chart.specs.Slides.{within_rows}
use Rattle.run_chart.proofs.slides.most_on_slide.Goals as goal

pub returns : goal.returns
returns c = subst (λ (n : ℕ). IfOk c.within_rows.result (λ kept. kept ≡ within_rows c.args.keeping.now c.args.chart.now n)) c.in_ok-count.ensures c.within_rows.ensures
