use Rattle.std.proofs.Common.{◌≡◌, ◌-◌, ◌++◌}
use Rattle.text_places.specs.Walk.{task_parts}
use Rattle.text_places.proofs.places.push_tasks.Given as goal

abbrev pub invariant-loop-part : goal.invariant-loop-part
invariant-loop-part l =
    l.tasks ++ task_parts l.phase l.line l.cores.first l.part (l.cores.count - l.part) ≡ l.initial.tasks ++ task_parts l.fn.phase l.fn.line l.fn.cores.first 0 l.cores.count
