use Rattle.std.proofs.Common.{◌≡◌, ◌++◌, None, drop, flat_map}
use Rattle.run_changes.specs.declared.look.EntryBefore.{EntryBefore}
use Rattle.run_changes.specs.Changes.{entry_change}
use Rattle.run_changes.proofs.since.add_entries.Given as goal

abbrev pub invariant-loop-entry : goal.invariant-loop-entry
invariant-loop-entry l =
    l.out.items ++ flat_map (λ (e : EntryBefore). entry_change e.word None e.entry) (drop l.entry-index l.entries)
    ≡ l.fn.out.items ++ flat_map (λ (e : EntryBefore). entry_change e.word None e.entry) l.entries
