use Rattle.std.proofs.Common.{◌≡◌, ◌-◌, ◌++◌}
use Rattle.rv_assembler.specs.Drafting.{claimed}
use Rattle.rv_assembler.proofs.draft.push_claims.Given as goal

abbrev pub invariant-loop-done : goal.invariant-loop-done
invariant-loop-done l = l.claims ++ claimed l.claim l.step (l.count - l._done) ≡ l.initial.claims ++ claimed l.fn.first l.step l.count
