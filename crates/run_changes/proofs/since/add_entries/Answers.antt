use Rattle.std.proofs.Common.{None}
use Rattle.run_changes.specs.declared.look.EntryBefore.{EntryBefore}
use Rattle.run_changes.specs.Changes.{entry_change}
use Rattle.run_changes.proofs.Listed.{some_read}
use Rattle.run_changes.proofs.since.add_entries.Goals as goal

pub loop-entry-preserved : goal.loop-entry-preserved
loop-entry-preserved c =
    rw c.in_ok-note_entry.ensures
    (some_read (λ (e : EntryBefore). entry_change e.word None e.entry) c.loop-entry.out.items c.args.entries.now c.loop-entry.entry-index _ _ c.loop-entry-test.true c.loop-entry.invariant)
