use Rattle.std.proofs.Common.{◌≡◌, ◌++◌, drop, slice_get}
use Rattle.std.specs.List.{filter_map}
use Rattle.dn_machine.specs.Ends.{end_in, end_index}
use Rattle.dn_machine.proofs.log.push_ends.Given as goal

abbrev pub invariant-loop-task : goal.invariant-loop-task
invariant-loop-task l = l.out ++ filter_map (λ d. end_in (slice_get l.table (end_index l.phase d.core.0))) (drop l.task-index l.tasks) ≡ l.fn.out ++ filter_map (λ d. end_in (slice_get l.table (end_index l.phase d.core.0))) l.tasks
