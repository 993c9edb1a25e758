use Rattle.std.proofs.Common.{◌≡◌}
use Rattle.explained_answer.specs.Fronts.{alike}
use Rattle.explained_answer.proofs.Alike.{alike_from}
use Rattle.explained_answer.proofs.fronts.alike.Given as goal

abbrev pub invariant-loop-place : goal.invariant-loop-place
invariant-loop-place l = alike l.left l.right ≡ alike_from l.left l.right l.place
