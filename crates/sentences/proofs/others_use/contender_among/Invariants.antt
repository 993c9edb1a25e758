use Rattle.std.proofs.Common.{◌≡◌, drop}
use Rattle.sentences.specs.Uses.{contender_among}
use Rattle.sentences.proofs.others_use.contender_among.Given as goal

abbrev pub invariant-loop-task : goal.invariant-loop-task
invariant-loop-task l = contender_among l.access l.core (drop l.task-index l.tasks) l.word ≡ contender_among l.access l.core l.tasks l.word
