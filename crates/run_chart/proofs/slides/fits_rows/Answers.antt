use Rattle.std.proofs.Common.{◌≡◌, IfOk, subst}
use Rattle.run_chart.specs.declared.keeping.Keeping.{Keeping}
use Rattle.run_chart.specs.Slides.{slide_fits}
use Rattle.run_chart.proofs.slides.fits_rows.Goals as goal

pub returns : goal.returns
returns c = subst (λ (k : Keeping). IfOk c.slide_fits.result (λ fit. fit ≡ slide_fits k c.args.chart.now)) c.in_ok-kept.ensures c.slide_fits.ensures
