use Rattle.std.proofs.Common.{◌≡◌, ◌≤◌, take, count_by}
use Rattle.sentences.specs.Families.{is_of_line}
use Rattle.sentences.proofs.families.family_size.Given as goal

-- the tasks so far
abbrev pub invariant-loop-task : goal.invariant-loop-task
invariant-loop-task l = (l.count ≡ count_by (is_of_line l.line) (take l.task-index l.tasks)) × (l.count ≤ l.task-index)
