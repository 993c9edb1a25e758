use Rattle.std.proofs.Common.{◌≡◌, ◌-◌, true, false, sym, ◌∙◌, arith}
use Rattle.run_chart.proofs.Fitting.{finished, found, passed}
use Rattle.run_chart.proofs.slides.most_rows.Goals as goal

pub loop-fewer-preserved : goal.loop-fewer-preserved
loop-fewer-preserved c =
    passed c.args.keeping.now c.args.chart.now c.loop-fewer.fewer (omega (arith, c.loop-fewer-test.true)) (sym c.in_ok-fit.ensures ∙ c.if-fit.false) ∙ c.loop-fewer.invariant

pub returns-then-fit : goal.returns-then-fit
returns-then-fit c =
    sym (found c.args.keeping.now c.args.chart.now c.loop-fewer.fewer (omega (arith, c.loop-fewer-test.true)) (sym c.in_ok-fit.ensures ∙ c.if-fit.true)) ∙ c.loop-fewer.invariant

pub returns : goal.returns
returns c = sym (finished c.args.keeping.now c.args.chart.now c.loop-fewer.fewer (omega (arith, c.loop-fewer-test.false))) ∙ c.loop-fewer.invariant
