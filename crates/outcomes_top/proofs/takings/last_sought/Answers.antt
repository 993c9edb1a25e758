use Rattle.std.proofs.Common.{◌∙◌, ap, arith, Option}
use Rattle.std.specs.Option.{option_or}
use Rattle.outcomes_top.specs.declared.reasons.Taken.{Taken}
use Rattle.outcomes_top.specs.Reasons.{last_sought}
use Rattle.outcomes_top.proofs.ReasonLemmas.{sought-more}
use Rattle.outcomes_top.proofs.takings.last_sought.Goals as goal

pub loop-taking-preserved : goal.loop-taking-preserved
loop-taking-preserved c = λ rs are.
    sought-more rs c.args.sought c.args.takings.now c.loop-taking.taking-index _ c.loop-taking.last c.or-last.result (last_sought rs c.args.sought c.args.takings.now)
    (omega (arith, c.loop-taking-test.true))
    (c.or-last.ensures ∙ ap (λ (o : Option Taken). option_or o c.loop-taking.last) (c.sought_in.ensures rs are)) (c.loop-taking.invariant rs are)
