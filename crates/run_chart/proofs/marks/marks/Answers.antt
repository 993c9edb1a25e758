use Rattle.std.proofs.Common.{◌≡◌, ◌+◌, ◌==◌, ◌||◌, Bool, [], Some, get_or, drop, ap, ◌∙◌, arith}
use Rattle.std.proofs.lemmas.List.{drop_all}
use Rattle.run_chart.specs.Marks.{is_on_chain}
use Rattle.run_chart.proofs.Marked.{marked-step}
use Rattle.run_chart.proofs.marks.marks.Goals as goal

pub loop-number-preserved : goal.loop-number-preserved
loop-number-preserved c =
    let chain = c.args.chain.now in
    let k = c.loop-number.number-index in
    record {
      all = c.mark.ensures.length ∙ c.loop-number.invariant.all;
      each = λ i within.
          let was = c.loop-number.invariant.each i within in
          let event = c.args.first + i in
          ((get_or chain k 0 == event) || was.0, c.mark.ensures.items i was.0 was.1, marked-step chain k event was.0 (is_on_chain chain event) c.loop-number-test.true was.2);
    }

pub returns : goal.returns
returns c =
    let chain = c.args.chain.now in
    let done : drop c.loop-number.number-index chain ≡ [] = drop_all c.loop-number.number-index chain (omega (arith, c.loop-number-test.false, c.loop-number.auto.number-index-end)) in
    record {
      all = c.loop-number.invariant.all;
      each = λ i within.
          let was = c.loop-number.invariant.each i within in
          let is : was.0 ≡ is_on_chain chain (c.args.first + i) = rw done at was.2 in
          was.1 ∙ ap (λ (t : Bool). Some t) is;
    }
