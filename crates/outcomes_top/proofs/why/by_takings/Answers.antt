use Rattle.std.proofs.Common.{◌≡◌, Option, None, ap, ◌∙◌}
use Rattle.common_outcomes.specs.Phases.{summaries}
use Rattle.outcomes_top.specs.declared.reasons.Reason.{Reason}
use Rattle.outcomes_top.specs.declared.reasons.Taken.{Taken}
use Rattle.outcomes_top.specs.Reasons.{AreRows, takings_in, last_sought}
use Rattle.outcomes_top.proofs.PhaseLemmas.{AreOutlines}
use Rattle.outcomes_top.proofs.ReasonLemmas.{rows-of-all}
use Rattle.outcomes_top.proofs.why.by_takings.Goals as goal

pub returns : goal.returns
returns c =
    let P = c.args.program.now in
    let fuel = c.args.fuel in
    let p = c.args.phase.now in
    let first = c.args.first.now in
    let rs = summaries P fuel p first in
    let takings = takings_in P fuel p first in
    let outlines : AreOutlines P fuel p first c.as_slice-2.result.now = c.as_slice-2.ensures.value ∙ c.in_ok-all.ensures.value in
    let rows : AreRows rs c.all_leading-rows.result = rows-of-all P fuel p first c.as_slice-2.result.now c.all_leading-rows.result outlines c.all_leading-rows.ensures in
    let one : c.last_sought.result ≡ last_sought rs c.args.sought.0 takings =
    c.last_sought.ensures rs rows ∙ ap (last_sought rs c.args.sought.0) (c.as_slice-3.ensures.value ∙ c.in_ok-takings.ensures) in
    let two : c.last_sought-2.result ≡ last_sought rs c.args.sought.1 takings =
    c.last_sought-2.ensures rs rows ∙ ap (last_sought rs c.args.sought.1) (c.as_slice-4.ensures.value ∙ c.in_ok-takings.ensures) in
    let made : Option Taken → Option Taken → Reason = λ x y. record { why = c.args.why; dependence = None; first = x; second = y } in
    ap (λ (x : Option Taken). made x c.last_sought-2.result) one ∙ ap (made (last_sought rs c.args.sought.0 takings)) two
