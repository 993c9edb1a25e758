use Rattle.std.proofs.Common.{arith}
use Rattle.explained_answer.proofs.EndedLemmas.{more-tasks}
use Rattle.explained_answer.proofs.ended.last_tasks.Goals as goal

pub loop-read-preserved : goal.loop-read-preserved
loop-read-preserved c =
    more-tasks c.args.lines.now c.loop-read.last.items c.note_task.new.last.items c.loop-read.read-index _ (omega (arith, c.loop-read-test.true))
    c.loop-read.invariant.1 c.loop-read.invariant.0 c.note_task.ensures
