use Rattle.std.proofs.Common.{sym, ◌∙◌}
use Rattle.outcomes_top.specs.Reasons.{is_guard}
use Rattle.outcomes_top.proofs.LockLemmas.{find-hit, find-miss, find-end}
use Rattle.outcomes_top.proofs.origins.guard_below.Goals as goal

pub returns-then-is_guard : goal.returns-then-is_guard
returns-then-is_guard c =
    sym (find-hit (is_guard c.args.decl.now c.args.held c.args.word.0) c.loop-lock.lock c.args.most c.loop-lock-test.true (sym c.is_guard.ensures ∙ c.if-is_guard.true)) ∙ c.loop-lock.invariant

pub loop-lock-preserved : goal.loop-lock-preserved
loop-lock-preserved c =
    find-miss (is_guard c.args.decl.now c.args.held c.args.word.0) c.loop-lock.lock c.args.most c.loop-lock-test.true (sym c.is_guard.ensures ∙ c.if-is_guard.false) ∙ c.loop-lock.invariant

pub returns : goal.returns
returns c = sym (find-end (is_guard c.args.decl.now c.args.held c.args.word.0) c.loop-lock.lock c.args.most c.loop-lock-test.false) ∙ c.loop-lock.invariant
