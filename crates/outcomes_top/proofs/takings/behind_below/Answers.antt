use Rattle.std.proofs.Common.{ℕ, Bool, ◌&&◌, sym, ◌∙◌}
use Rattle.rv_core.specs.Access.{is_held}
use Rattle.outcomes_top.specs.Reasons.{is_way}
use Rattle.outcomes_top.proofs.LockLemmas.{find-hit, find-miss, find-end}
use Rattle.outcomes_top.proofs.takings.behind_below.Goals as goal

pub returns-then-is_behind : goal.returns-then-is_behind
returns-then-is_behind c = λ rs are.
    let test : ℕ → Bool = λ (k : ℕ). is_held c.args.held k && is_way rs c.args.from k in
    sym (find-hit test c.loop-lock.lock c.args.most c.loop-lock-test.true (sym (c.is_behind.ensures rs are) ∙ c.if-is_behind.true)) ∙ c.loop-lock.invariant rs are

pub loop-lock-preserved : goal.loop-lock-preserved
loop-lock-preserved c = λ rs are.
    let test : ℕ → Bool = λ (k : ℕ). is_held c.args.held k && is_way rs c.args.from k in
    find-miss test c.loop-lock.lock c.args.most c.loop-lock-test.true (sym (c.is_behind.ensures rs are) ∙ c.if-is_behind.false) ∙ c.loop-lock.invariant rs are

pub returns : goal.returns
returns c = λ rs are.
    let test : ℕ → Bool = λ (k : ℕ). is_held c.args.held k && is_way rs c.args.from k in
    sym (find-end test c.loop-lock.lock c.args.most c.loop-lock-test.false) ∙ c.loop-lock.invariant rs are
