use Rattle.host_workers.proofs.RoundNotes.{noted-more}
use Rattle.host_workers.proofs.noting.note_events.Goals as goal

pub loop-entry-preserved : goal.loop-entry-preserved
loop-entry-preserved c =
    noted-more c.args.merged.now c.loop-entry.entry-index _ c.args.log.now c.loop-entry.log c.note.new.self c.loop-entry-test.true c.loop-entry.invariant c.in_ok-note.ensures
