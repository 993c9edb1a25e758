use Rattle.std.proofs.Common.{◌≡◌, ◌+◌, List, [], drop, ap, sym, ◌∙◌, arith}
use Rattle.std.proofs.lemmas.List.{drop_all}
use Rattle.run_account.specs.declared.measure.Measure.{Measure}
use Rattle.run_account.specs.Tallies.{capped}
use Rattle.run_account.specs.Traffic.{sum_of_measures}
use Rattle.run_account.proofs.traffic.sum_of.Goals as goal

pub returns : goal.returns
returns c =
    let none : drop c.loop-measure.measure-index c.args.measures.now ≡ [] = drop_all c.loop-measure.measure-index c.args.measures.now c.loop-measure-test.false in
    let led = ap (λ (ms : List Measure). capped (c.loop-measure.sum + sum_of_measures c.args.table.now c.args.group ms)) (sym none) ∙ c.loop-measure.invariant.leads in
    omega (arith, c.loop-measure.invariant.small, led)
