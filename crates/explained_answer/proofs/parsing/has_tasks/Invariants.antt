use Rattle.std.proofs.Common.{◌≡◌, ◌+◌, drop, length}
use Rattle.region_table.specs.Program.{tasks_of}
use Rattle.explained_answer.proofs.parsing.has_tasks.Given as goal

-- the tasks so far and the others are those that were asked for
abbrev pub invariant-loop-phase : goal.invariant-loop-phase
invariant-loop-phase l = l.tasks + length (tasks_of (drop l.phase-index l.phases)) ≡ l.others + length (tasks_of l.phases)
