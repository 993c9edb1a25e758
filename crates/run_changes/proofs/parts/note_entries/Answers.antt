use Rattle.run_changes.specs.Changes.{change_before}
use Rattle.run_changes.proofs.Listed.{some_read}
use Rattle.run_changes.proofs.parts.note_entries.Goals as goal

pub loop-before-preserved : goal.loop-before-preserved
loop-before-preserved c =
    rw (c.in_ok-note_entry.ensures, c.entry.ensures)
    (some_read (change_before c.args.node.now) c.loop-before.out.items c.args.befores.now c.loop-before.before-index _ _ c.loop-before-test.true c.loop-before.invariant)
