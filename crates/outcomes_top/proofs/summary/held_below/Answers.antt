use Rattle.std.proofs.Common.{ℕ, Bool, ◌&&◌, sym, ◌∙◌}
use Rattle.std.specs.List.{list_any}
use Rattle.rv_core.specs.Access.{is_held}
use Rattle.common_outcomes.specs.Phases.{takes_elsewhere}
use Rattle.outcomes_top.proofs.LockLemmas.{find-hit, find-miss, find-end}
use Rattle.outcomes_top.proofs.summary.held_below.Goals as goal

pub returns-then-is_wanted : goal.returns-then-is_wanted
returns-then-is_wanted c =
    let wanted : ℕ → Bool = λ (l : ℕ). is_held c.args.held l && list_any (takes_elsewhere c.args.decl.now l) c.args.all.now in
    sym (find-hit wanted c.loop-lock.lock c.args.most c.loop-lock-test.true (sym c.is_wanted.ensures ∙ c.if-is_wanted.true)) ∙ c.loop-lock.invariant

pub loop-lock-preserved : goal.loop-lock-preserved
loop-lock-preserved c =
    let wanted : ℕ → Bool = λ (l : ℕ). is_held c.args.held l && list_any (takes_elsewhere c.args.decl.now l) c.args.all.now in
    find-miss wanted c.loop-lock.lock c.args.most c.loop-lock-test.true (sym c.is_wanted.ensures ∙ c.if-is_wanted.false) ∙ c.loop-lock.invariant

pub returns : goal.returns
returns c =
    let wanted : ℕ → Bool = λ (l : ℕ). is_held c.args.held l && list_any (takes_elsewhere c.args.decl.now l) c.args.all.now in
    sym (find-end wanted c.loop-lock.lock c.args.most c.loop-lock-test.false) ∙ c.loop-lock.invariant
