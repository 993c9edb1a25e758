use Rattle.std.proofs.Common.{◌≡◌, drop}
use Rattle.sentences.specs.Uses.{guardian_among}
use Rattle.sentences.proofs.others_use.guardian_among.Given as goal

abbrev pub invariant-loop-task : goal.invariant-loop-task
invariant-loop-task l = guardian_among (drop l.task-index l.tasks) l.word ≡ guardian_among l.tasks l.word
