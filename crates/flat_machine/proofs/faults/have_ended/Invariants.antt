use Rattle.std.proofs.Common.{◌≡◌, drop}
use Rattle.std.specs.List.{list_all}
use Rattle.flat_machine.specs.Faults.{has_ended}
use Rattle.flat_machine.proofs.faults.have_ended.Given as goal

abbrev pub invariant-loop-running : goal.invariant-loop-running
invariant-loop-running l = list_all has_ended (drop l.running-index l.tasks) ≡ list_all has_ended l.tasks
