use Rattle.std.proofs.Common.{◌≡◌, drop}
use Rattle.sentences.specs.Stops.{task_in}
use Rattle.sentences.proofs.stopping.task_in.Given as goal

-- the phases that are left have the task
abbrev pub invariant-loop-phase : goal.invariant-loop-phase
invariant-loop-phase l = task_in (drop l.phase-index l.program.phases) l.left ≡ task_in l.program.phases l.number
