use Rattle.std.proofs.Common.{◌≡◌, IfOk, sym, subst}
use Rattle.run_chart.specs.declared.parts.Fit.{Fit}
use Rattle.run_chart.specs.Slides.{fitted}
use Rattle.run_chart.proofs.slides.fitted.Goals as goal

pub returns-in-Slide : goal.returns-in-Slide
returns-in-Slide c =
    subst (λ (f : Fit). IfOk c.on_slide.result (λ kept. kept ≡ fitted f c.args.keeping.now c.args.chart.now)) (sym c.in-Slide.is) c.on_slide.ensures
