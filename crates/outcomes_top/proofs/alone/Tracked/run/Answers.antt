use Rattle.std.proofs.Common.{◌≡◌, ◌-◌, false, suc, sym, ◌∙◌}
use Rattle.common_outcomes.proofs.Phase.{still}
use Rattle.outcomes_top.proofs.alone.Tracked.run.Goals as goal

pub returns-then-not-branch-clause-value : goal.returns-then-not-branch-clause-value
returns-then-not-branch-clause-value c =
    let S = c.args.place.now in
    let stood : c.in_ok-step.field-0 ≡ false = cc in
    let stays = c.in_ok-step.ensures.still stood in
    c.in_ok-step.ensures.value ∙ stays ∙ sym (still S (suc S.fuel - c.loop-done._done) c.loop-done.self.task stays) ∙ c.loop-done.invariant.leads
