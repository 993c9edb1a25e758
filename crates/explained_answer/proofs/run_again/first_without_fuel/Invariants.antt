use Rattle.std.proofs.Common.{◌≡◌, drop}
use Rattle.std.specs.List.{find}
use Rattle.rv_core.specs.declared.ending.TaskEnd.{TaskEnd}
use Rattle.rv_core.specs.Ending.{is_spent}
use Rattle.explained_answer.proofs.run_again.first_without_fuel.Given as goal

-- none so far is out of fuel
abbrev pub invariant-loop-end : goal.invariant-loop-end
invariant-loop-end l = find (λ (t : TaskEnd). is_spent t.end) (drop l.end-index l.ends) ≡ find (λ (t : TaskEnd). is_spent t.end) l.ends
