use Rattle.std.proofs.Common.{◌≡◌, drop}
use Rattle.sentences.specs.Guards.{guarded_among}
use Rattle.sentences.proofs.guards.guarded_among.Given as goal

abbrev pub invariant-loop-task : goal.invariant-loop-task
invariant-loop-task l = guarded_among (drop l.task-index l.tasks) l.lock l.word ≡ guarded_among l.tasks l.lock l.word
