use Rattle.std.proofs.Common.{◌≡◌, true, false, IfOk, sym, subst, ◌∙◌}
use Rattle.run_chart.specs.declared.keeping.Keeping.{Keeping}
use Rattle.run_chart.proofs.Fitting.{part-slide, whole-slide}
use Rattle.run_chart.proofs.Kept.{from-kept}
use Rattle.run_chart.proofs.slides.on_slide.Goals as goal

pub most_on_slide-requires : goal.most_on_slide-requires
most_on_slide-requires c =
    from-kept c.args.keeping.now c.args.chart.now c.as_slice.result.now c.as_slice-2.result.now c.in_ok-kept.kept c.from_first.result.now c.as_slice.ensures c.as_slice-2.ensures c.in_ok-kept.ensures.rows c.from_first.ensures

pub returns-then-fit : goal.returns-then-fit
returns-then-fit c =
    subst (λ (k : Keeping). IfOk c.with_window.result (λ kept. kept ≡ k)) (sym (whole-slide c.args.keeping.now c.args.chart.now (sym c.in_ok-fit.ensures ∙ c.if-fit.true))) c.with_window.ensures

pub returns : goal.returns
returns c =
    subst (λ (k : Keeping). IfOk c.most_on_slide.result (λ kept. kept ≡ k)) (sym (part-slide c.args.keeping.now c.args.chart.now (sym c.in_ok-fit.ensures ∙ c.if-fit.false))) c.most_on_slide.ensures
