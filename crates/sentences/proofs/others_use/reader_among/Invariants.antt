use Rattle.std.proofs.Common.{◌≡◌, drop}
use Rattle.sentences.specs.Uses.{reader_among}
use Rattle.sentences.proofs.others_use.reader_among.Given as goal

abbrev pub invariant-loop-task : goal.invariant-loop-task
invariant-loop-task l = reader_among l.core (drop l.task-index l.tasks) l.word ≡ reader_among l.core l.tasks l.word
