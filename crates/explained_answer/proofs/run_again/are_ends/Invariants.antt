use Rattle.std.proofs.Common.{◌≡◌, drop}
use Rattle.explained_answer.specs.RunAgain.{are_ends}
use Rattle.explained_answer.proofs.run_again.are_ends.Given as goal

-- all so far stand so
abbrev pub invariant-loop-end : goal.invariant-loop-end
invariant-loop-end l = are_ends (drop l.end-index l.ends) l.rest ≡ are_ends l.ends l.stops
