use Rattle.std.proofs.Common.{◌≡◌}
use Rattle.claims.specs.Differences.{first_difference}
use Rattle.claims.proofs.Places.{from_place}
use Rattle.claims.proofs.alike.first_difference.Given as goal

abbrev pub invariant-loop-place : goal.invariant-loop-place
invariant-loop-place g l = first_difference g.T.Alike.same l.claimed l.right ≡ from_place g.T.Alike.same l.claimed l.right l.place
