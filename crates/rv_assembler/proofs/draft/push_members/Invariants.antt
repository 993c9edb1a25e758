use Rattle.std.proofs.Common.{◌≡◌, ◌-◌, ◌++◌}
use Rattle.rv_assembler.specs.Drafting.{members}
use Rattle.rv_assembler.proofs.draft.push_members.Given as goal

abbrev pub invariant-loop-done : goal.invariant-loop-done
invariant-loop-done l = l.tasks ++ members l.task l.step (l.count - l._done) ≡ l.initial.tasks ++ members l.fn.first l.step l.count
