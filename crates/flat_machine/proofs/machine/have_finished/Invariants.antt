use Rattle.std.proofs.Common.{◌≡◌, drop}
use Rattle.std.specs.List.{list_all}
use Rattle.flat_machine.specs.Phases.{has_finished}
use Rattle.flat_machine.proofs.machine.have_finished.Given as goal

abbrev pub invariant-loop-running : goal.invariant-loop-running
invariant-loop-running l = list_all has_finished (drop l.running-index l.tasks) ≡ list_all has_finished l.tasks
