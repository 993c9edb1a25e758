use Rattle.std.proofs.Common.{◌≡◌, drop}
use Rattle.explained_answer.specs.RunAgain.{pc_of_end}
use Rattle.explained_answer.proofs.run_again.pc_of_end.Given as goal

-- none so far is this task
abbrev pub invariant-loop-stop : goal.invariant-loop-stop
invariant-loop-stop l = pc_of_end (drop l.stop-index l.stops) l.task ≡ pc_of_end l.stops l.task
