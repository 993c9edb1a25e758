use Rattle.std.proofs.Common.{◌≡◌, ◌++◌, drop, take, flat_map}
use Rattle.std.specs.List.{All}
use Rattle.rv_listing.specs.Law.{IsOfWords}
use Rattle.rv_listing.specs.Listing.{text_of, task_lines}
use Rattle.rv_listing.proofs.writing.push_phase.Given as goal

abbrev pub invariant-loop-task : goal.invariant-loop-task
invariant-loop-task l = record {
  lines : l.out.items ++ text_of (flat_map (task_lines l.regions l.locks) (drop l.task-index l.task-items)) ≡ l.initial.out.items ++ text_of (flat_map (task_lines l.regions l.locks) l.task-items);
  words : All IsOfWords (take l.task-index l.task-items);
}
